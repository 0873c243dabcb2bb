-- Pairs of nodes that have the same language: only those that have one clash, and the order of two is of no account.
use Prim.Native.Nat.{ℕ, ◌≤◌, ◌<◌}
use mathlib.Core.Bool.{Bool, true, false, not, ◌&&◌, and-false}
use mathlib.Core.List.{List}
use mathlib.Core.Option.{Option}
use mathlib.Core.Path.{◌≡◌, refl, sym, ap, ap₂, ◌∙◌}
use native.Mathlib.Omega.{arith}
use lib.Dec.{eqb, ltb}
use lib.IntN.{ℤ}
use borrow.Author.Tests.{eq-eqb, eqb-true, lt-ltb}
use Rattle.std.specs.Prelude as std
use Rattle.base.specs.Bounded.{◌⇒◌}
use Rattle.base.proofs.Bools.{bool_cases, same_test, and_left}
use Rattle.nodeset.specs.Words.{has, words_of}
use Rattle.nodeset.proofs.Sets.{has_of}
use Rattle.model.specs.declared.NodeNo.{NodeNo}
use Rattle.model.specs.Graph.{language_of, holds, holds₂}
use Rattle.model.specs.Shapes.{same_lang, unlike_langs}
use Rattle.model.specs.Limits.{max_nodes}
use Rattle.tables.specs.Codes as codes
use Rattle.tables.specs.Layout.{node_count, kind_at, lang_at}
use Rattle.tables.specs.Decode.{term_at}
use Rattle.plan.specs.Conditions.{some_pair, clash}
use Rattle.plan.proofs.Complements.{not-clash}
use Rattle.conditions.specs.Searches.{first_pair, among, found, nothing, pair_found}
use Rattle.conditions.proofs.Terms.{lang_test}
use Rattle.conditions.proofs.Searches.{some-pair, none-of, pair_ext, pair-breaks, pair_keeps}
use Rattle.conditions.proofs.Listing.{ordered, ordered-first}

lang-turn : (o p : Option ℕ) → holds₂ eqb o p ≡ holds₂ eqb p o
unfolding holds
lang-turn Option.none Option.none = refl
lang-turn Option.none (Option.some y) = refl
lang-turn (Option.some x) Option.none = refl
lang-turn (Option.some x) (Option.some y) = same_test (eqb x y) (eqb y x) (λ h. eq-eqb y x (sym (eqb-true x y h))) (λ h. eq-eqb x y (sym (eqb-true y x h)))

module _ (cs : List ℕ) (vs : List ℤ) where
  -- two nodes have the same language
  abbrev pub alike : ℕ → ℕ → Bool
  alike x y = same_lang (term_at cs vs x) (term_at cs vs y)

  alike-turn : (x y : ℕ) → alike x y ≡ alike y x
  unfolding same_lang
  alike-turn x y = lang-turn (language_of (term_at cs vs x)) (language_of (term_at cs vs y))

  -- what a search for two different members of w that clash finds
  abbrev pub first_clash : (ℕ → Bool) → Option (ℕ × ℕ)
  first_clash w = first_pair (among w w (clash (term_at cs vs))) (node_count cs)

  -- it need look at a pair one way only, the lower node first
  pub clash-ordered : (w : ℕ → Bool) → first_pair (among w w (ordered alike)) (node_count cs) ≡ first_clash w
  unfolding clash
  clash-ordered w = ordered-first w alike alike-turn (node_count cs)

  -- nothing is found where no two different members have the same language; something where two have
  pub lang-keeps : (w : ℕ → Bool) → nothing (first_clash w) ≡ unlike_langs (term_at cs vs) (node_count cs) w
  lang-keeps w = pair_keeps (node_count cs) w w (clash (term_at cs vs)) (λ x y. not (eqb x y) ⇒ not (alike x y)) (not-clash (term_at cs vs))

  pub lang-breaks : (w : ℕ → Bool) → found (first_clash w) ≡ some_pair (node_count cs) w w (clash (term_at cs vs))
  lang-breaks w = pair-breaks (node_count cs) w w (clash (term_at cs vs))

  -- the same of what the code found, read off
  pub onelang-kept : (w : ℕ → Bool) (o : std.Option (NodeNo × NodeNo)) {t : Bool} → pair_found o ≡ first_clash w → std.is_some o ≡ not t → t ≡ unlike_langs (term_at cs vs) (node_count cs) w
  onelang-kept w o e h = none-of (pair_found o) (some-pair o) h ∙ ap nothing e ∙ lang-keeps w

  pub onelang-broken : (w : ℕ → Bool) (o : std.Option (NodeNo × NodeNo)) → pair_found o ≡ first_clash w → std.is_some o ≡ some_pair (node_count cs) w w (clash (term_at cs vs))
  onelang-broken w o e = some-pair o ∙ ap found e ∙ lang-breaks w

  -- those that have no language need not be looked at
  alike-only : (x y : ℕ) → x < node_count cs → y < node_count cs → alike x y ≡ true → eqb (kind_at cs x) codes.node_words ≡ true
  alike-only x y l k t = and_left (eqb (kind_at cs x) codes.node_words) (eqb (kind_at cs y) codes.node_words && eqb (lang_at cs x) (lang_at cs y)) (lang_test cs vs x y l k ∙ t)

  module _ (a w : ℕ → Bool) (split : (x : ℕ) → x < node_count cs → w x ≡ (a x && eqb (kind_at cs x) codes.node_words)) where
    both-tagged : (x y : ℕ) → x < node_count cs → y < node_count cs → among w w (clash (term_at cs vs)) x y ≡ among a a (clash (term_at cs vs)) x y
    unfolding clash
    both-tagged x y l k = bool_cases (λ b. alike x y ≡ b → (w x && (w y && (not (eqb x y) && b))) ≡ (a x && (a y && (not (eqb x y) && b)))) (alike x y)
        (λ _ t. ap₂ (λ (s r : Bool). s && (r && (not (eqb x y) && true)))
        (split x l ∙ whole (a x) (alike-only x y l k t)) (split y k ∙ whole (a y) (alike-only y x k l (alike-turn y x ∙ t))))
        (λ _ t. ap (λ (b : Bool). w x && (w y && b)) (and-false (not (eqb x y))) ∙ ap (λ (b : Bool). w x && b) (and-false (w y)) ∙ and-false (w x)
        ∙ sym (ap (λ (b : Bool). a x && (a y && b)) (and-false (not (eqb x y))) ∙ ap (λ (b : Bool). a x && b) (and-false (a y)) ∙ and-false (a x)))
        refl
      where
        whole : (a : Bool) {b : Bool} → b ≡ true → (a && b) ≡ a
        whole true e = e
        whole false e = refl

    pub only-tagged : first_clash w ≡ first_clash a
    only-tagged = pair_ext (among w w (clash (term_at cs vs))) (among a a (clash (term_at cs vs))) (node_count cs) both-tagged

    pub unlike_tagged : unlike_langs (term_at cs vs) (node_count cs) w ≡ unlike_langs (term_at cs vs) (node_count cs) a
    unlike_tagged = sym (lang-keeps w) ∙ ap nothing only-tagged ∙ lang-keeps a

    pub clash-tagged : some_pair (node_count cs) w w (clash (term_at cs vs)) ≡ some_pair (node_count cs) a a (clash (term_at cs vs))
    clash-tagged = sym (lang-breaks w) ∙ ap found only-tagged ∙ lang-breaks a

-- the words of the nodes that have a language
pub has-tagged : (cs : List ℕ) {ws : List ℕ} → node_count cs ≤ max_nodes → ws ≡ words_of (λ m. ltb m (node_count cs) && eqb (kind_at cs m) codes.node_words) 16 → (a : ℕ → Bool) (x : ℕ) → x < node_count cs → (a x && has ws x) ≡ (a x && eqb (kind_at cs x) codes.node_words)
has-tagged cs few e a x l = ap (λ (b : Bool). a x && b) (has_of (λ m. ltb m (node_count cs) && eqb (kind_at cs m) codes.node_words) 16 e x (omega arith) ∙ ap (λ (b : Bool). b && eqb (kind_at cs x) codes.node_words) (lt-ltb x (node_count cs) l))
