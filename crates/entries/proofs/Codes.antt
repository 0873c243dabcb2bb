-- What well_formed_lem tables give of a form entry, by its code.
use Prim.Native.Nat.{ℕ, ◌≤◌, ◌<◌}
use mathlib.Core.List.{List}
use mathlib.Core.Bool.{Bool, true, cond, ◌&&◌, ◌||◌}
use mathlib.Core.Path.{◌≡◌, refl, sym, ap, ◌∙◌}
use mathlib.Core.Logic.{⊎_elim}
use native.Mathlib.Omega.{arith}
use lib.Dec.{eqb, ltb, leb}
use lib.IntN.{ℤ}
use borrow.Author.Tests.{ltb-true, lt-ltb, eqb-true, eqb-false, ne_eqb}
use Rattle.base.proofs.Bools.{and_left, or_cases, bool_cases}
use Rattle.model.specs.Limits.{max_nodes, max_count}
use Rattle.model.specs.Paths.{self, along}
use Rattle.model.specs.Shapes.{Shape, conforms}
use Rattle.tables.specs.Codes as codes
use Rattle.tables.specs.Layout.{no_number, node_count, link_count, path_count, form_count, form_code_at, form_first_at, form_second_at, form_third_at, form_fourth_at, limit_at}
use Rattle.tables.specs.Entries.{Entry, entry_of}
use Rattle.tables.specs.Decode.{graph_at, path_at, end_at, shape_of, entry_at, shape_at}
use Rattle.tables.specs.WellFormed.{items_ok, entry_ok, end_number_ok, upper_ok}
use Rattle.tables.proofs.WellFormed.{Sound, sound}
use Rattle.tables.proofs.Decode.{shape-at}
use Rattle.paths.specs.Facts.{Tables}

-- END that is not `id` is a path entry
pub end_below : (cs : List ℕ) (p : ℕ) → (p ≡ no_number → ⊥) → end_number_ok cs p ≡ true → ltb p (path_count cs) ≡ true
unfolding end_number_ok
end_below cs p ne h = ⊎_elim (λ e. e) (λ e. absurd (ne (eqb-true p no_number e))) (or_cases (ltb p (path_count cs)) (eqb p no_number) h)

module _ (cs : List ℕ) {index : List ℕ} (t : Tables cs index) where
  pub sound_of : Sound cs
  sound_of = sound cs t.ok

  pub nodes_le : node_count cs ≤ max_nodes
  nodes_le = sound_of.nodes

  module _ (vs : List ℤ) (e : ℕ) (l : e < form_count cs) where
    -- the entry that has code n
    abbrev pub entry_by : ℕ → Entry
    entry_by n = entry_of n (form_first_at cs e) (form_second_at cs e) (form_third_at cs e) (form_fourth_at cs e) (limit_at vs e)

    pub right_by : (n : ℕ) → form_code_at cs e ≡ n → entry_ok cs e (entry_by n) ≡ true
    unfolding entry_at
    right_by n q = ap (λ (k : ℕ). entry_ok cs e (entry_by k)) (sym q) ∙ sound_of.entry vs e l

    -- what it means, by what its parts mean
    pub conforms_by : (n : ℕ) → form_code_at cs e ≡ n → (v : ℕ) → conforms (graph_at cs vs) (shape_of cs (entry_by n) (shape_at cs vs)) v ≡ conforms (graph_at cs vs) (shape_at cs vs e) v
    unfolding entry_at
    conforms_by n q v = ap (λ (k : ℕ). conforms (graph_at cs vs) (shape_of cs (entry_by k) (shape_at cs vs)) v) (sym q) ∙ ap (λ (s : Shape). conforms (graph_at cs vs) s v) (sym (shape-at cs e sound_of vs l))

    -- the path entry of `count`, `all`, `less`, `lesseq`, `onelang`; END of `equal` and `apart`
    pub count_path : form_code_at cs e ≡ codes.form_count → form_first_at cs e < path_count cs
    unfolding entry_of entry_ok
    count_path q = ltb-true (form_first_at cs e) (path_count cs) (and_left (ltb (form_first_at cs e) (path_count cs)) (ltb (form_second_at cs e) e) (and_left (ltb (form_first_at cs e) (path_count cs) && ltb (form_second_at cs e) e) (leb (form_third_at cs e) max_count && upper_ok cs (form_fourth_at cs e)) (right_by codes.form_count q)))

    pub all_path : form_code_at cs e ≡ codes.form_all → form_first_at cs e < path_count cs
    unfolding entry_of entry_ok
    all_path q = ltb-true (form_first_at cs e) (path_count cs) (and_left (ltb (form_first_at cs e) (path_count cs)) (ltb (form_second_at cs e) e) (right_by codes.form_all q))

    pub less_path : form_code_at cs e ≡ codes.form_less → form_first_at cs e < path_count cs
    unfolding entry_of entry_ok
    less_path q = ltb-true (form_first_at cs e) (path_count cs) (and_left (ltb (form_first_at cs e) (path_count cs)) (ltb (form_second_at cs e) (link_count cs)) (right_by codes.form_less q))

    pub lesseq_path : form_code_at cs e ≡ codes.form_lesseq → form_first_at cs e < path_count cs
    unfolding entry_of entry_ok
    lesseq_path q = ltb-true (form_first_at cs e) (path_count cs) (and_left (ltb (form_first_at cs e) (path_count cs)) (ltb (form_second_at cs e) (link_count cs)) (right_by codes.form_lesseq q))

    pub lang_path : form_code_at cs e ≡ codes.form_onelang → form_first_at cs e < path_count cs
    unfolding entry_of entry_ok
    lang_path q = ltb-true (form_first_at cs e) (path_count cs) (right_by codes.form_onelang q)

    pub equal_end : form_code_at cs e ≡ codes.form_equal → end_number_ok cs (form_first_at cs e) ≡ true
    unfolding entry_of entry_ok
    equal_end q = and_left (end_number_ok cs (form_first_at cs e)) (ltb (form_second_at cs e) (link_count cs)) (right_by codes.form_equal q)

    pub apart-end : form_code_at cs e ≡ codes.form_apart → end_number_ok cs (form_first_at cs e) ≡ true
    unfolding entry_of entry_ok
    apart-end q = and_left (end_number_ok cs (form_first_at cs e)) (ltb (form_second_at cs e) (link_count cs)) (right_by codes.form_apart q)

    -- the links of `closed`
    pub closed-links : form_code_at cs e ≡ codes.form_closed → items_ok cs (link_count cs) (form_first_at cs e) (form_second_at cs e) ≡ true
    unfolding entry_of entry_ok
    closed-links q = right_by codes.form_closed q

    path_end : form_first_at cs e < path_count cs → end_number_ok cs (form_first_at cs e) ≡ true
    unfolding end_number_ok
    path_end h = ap (λ (b : Bool). b || eqb (form_first_at cs e) no_number) (lt-ltb (form_first_at cs e) (path_count cs) h)

    -- a path entry as END
    pub path_along : form_first_at cs e < path_count cs → end_at cs (form_first_at cs e) ≡ along (path_at cs (form_first_at cs e))
    unfolding end_at
    path_along h = ap (λ (b : Bool). cond b self (along (path_at cs (form_first_at cs e)))) (ne_eqb (form_first_at cs e) no_number (λ q. let z : ⊥ = omega (arith, h, q, sound_of.paths) in z))

    -- of each of `equal`, `apart`, `less`, `lesseq`
    pub set-end : codes.form_equal ≤ form_code_at cs e → form_code_at cs e ≤ codes.form_lesseq → (form_code_at cs e ≡ codes.form_closed → ⊥) → end_number_ok cs (form_first_at cs e) ≡ true
    set-end a b ne =
        case codes.form_equal equal_end (λ n15. case codes.form_apart apart-end (λ n16. case codes.form_less (λ q. path_end (less_path q)) (λ n18.
        let q : form_code_at cs e ≡ codes.form_lesseq = omega arith in
        path_end (lesseq_path q))))
      where
        case : (n : ℕ) → (form_code_at cs e ≡ n → end_number_ok cs (form_first_at cs e) ≡ true) → ((form_code_at cs e ≡ n → ⊥) → end_number_ok cs (form_first_at cs e) ≡ true) → end_number_ok cs (form_first_at cs e) ≡ true
        case n f g = bool_cases (λ t. eqb (form_code_at cs e) n ≡ t → end_number_ok cs (form_first_at cs e) ≡ true) (eqb (form_code_at cs e) n) (λ _ h. f (eqb-true (form_code_at cs e) n h)) (λ _ h. g (eqb-false (form_code_at cs e) n h)) refl
