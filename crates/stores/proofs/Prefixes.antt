-- The lines above: what is known of them where all are valid.
use mathlib.Core.List.{[], ◌∷◌, ◌++◌, append-nil, append_assoc}
use mathlib.Core.Bool.{true, cond, not, ◌&&◌}
use mathlib.Core.Path.{◌≡◌, refl, sym, ap, ◌∙◌, subst}
use lib.Dec.{eqb}
use Rattle.base.specs.Lists.{allb}
use Rattle.base.proofs.Bools.{bool_cases, and_left, and_right, and_both}
use Rattle.text.specs.Items.{is_name, name_byte}
use Rattle.text.specs.Pool.{all_names}
use Rattle.text.proofs.Places.{names_append}
use Rattle.model.specs.Books.{Name, Line, link, type, lang, node, fact, shape, rule, Book, Pool, nodes, links, types, langs, shapes, pool_number, built_in, joins, new_names, collect, names}
use Rattle.model.specs.Valid.{line_ok, admissible_from, admissible}
use Rattle.model.proofs.Lines.{names_snoc}
use Rattle.grammar.specs.Valid.{reserved, well_named, new_name, names_ok, valid_line, valid_from, valid}

-- lines that are right, with names that are well made
pub record Prefix (a : Book) : Type 0 where
  pub admissible-above : admissible a ≡ true
  pub names-made : (p : Pool) → all_names (names p a) ≡ true

-- the halves of a valid line
module _ (a : Book) (l : Line) (ok : valid_line a l ≡ true) where
  pub line-right : line_ok a l ≡ true
  unfolding valid_line
  line-right = and_left _ _ ok

  pub line-named : names_ok a l ≡ true
  unfolding valid_line
  line-named = and_left _ _ (and_right (line_ok a l) _ ok)

-- one line more
admissible_snoc : (a c : Book) (l : Line) → admissible_from a c ≡ true → line_ok (a ++ c) l ≡ true → admissible_from a (c ++ (l ∷ [])) ≡ true
unfolding admissible_from
admissible_snoc a [] l v e = and_both (line_ok a l) true (ap (λ (b : Book). line_ok b l) (sym (append-nil a)) ∙ e) refl
admissible_snoc a (k ∷ c) l v e =
    and_both (line_ok a k) (admissible_from (a ++ (k ∷ [])) (c ++ (l ∷ []))) (and_left _ _ v)
    (admissible_snoc (a ++ (k ∷ [])) c l (and_right (line_ok a k) _ v) (ap (λ (b : Book). line_ok b l) (append_assoc a (k ∷ []) c) ∙ e))

-- a new name is a name
pub new_made : (a : Book) (q : Pool) (n : Name) → new_name a q n ≡ true → is_name n ≡ true
unfolding new_name well_named
new_made a q n e = and_left _ _ (and_left (is_name n && not (reserved q n)) _ e)

named_joined : (a : Book) (p q : Pool) (n : Name) → new_name a q n ≡ true → all_names (joins p q n) ≡ true
unfolding joins all_names
named_joined a p q n e = bool_cases (λ t. all_names (cond t (n ∷ []) []) ≡ true) (eqb (pool_number p) (pool_number q)) (λ _. and_both (is_name n) true (new_made a q n e) refl) (λ _. refl)

line_made : (a : Book) (p : Pool) (l : Line) → names_ok a l ≡ true → all_names (new_names p l) ≡ true
unfolding new_names names_ok all_names
line_made a p (link n) e = named_joined a p links n e
line_made a p (type n) e = named_joined a p types n e
line_made a p (lang n) e = named_joined a p langs n e
line_made a p (node n t) e = named_joined a p nodes n e
line_made a p (fact t) e = refl
line_made a p (shape n φ) e = named_joined a p shapes n e
line_made a p (rule r) e = refl

start-made : (p : Pool) → all_names (names p []) ≡ true
unfolding names built_in collect all_names is_name allb name_byte
start-made nodes = refl
start-made links = refl
start-made types = refl
start-made langs = refl
start-made shapes = refl

pub prefix_start : Prefix []
unfolding admissible admissible_from
prefix_start = record { admissible-above = refl; names-made = start-made }

pub prefix_more : (a : Book) (l : Line) → Prefix a → valid_line a l ≡ true → Prefix (a ++ (l ∷ []))
unfolding admissible
prefix_more a l P ok =
    record {
      admissible-above = admissible_snoc [] a l P.admissible-above (line-right a l ok);
      names-made = λ p. ap all_names (names_snoc p a l) ∙ names_append (names p a) (new_names p l) ∙ and_both _ _ (P.names-made p) (line_made a p l (line-named a l ok));
    }

prefix_lines : (c a : Book) → Prefix a → valid_from a c ≡ true → Prefix (a ++ c)
unfolding valid_from
prefix_lines [] a P v = subst Prefix (sym (append-nil a)) P
prefix_lines (l ∷ c) a P v = subst Prefix (append_assoc a (l ∷ []) c) (prefix_lines c (a ++ (l ∷ [])) (prefix_more a l P (and_left _ _ v)) (and_right (valid_line a l) _ v))

pub prefix_valid : (a : Book) → valid_from [] a ≡ true → Prefix a
prefix_valid a v = prefix_lines a [] prefix_start v

-- the names of a valid book
pub valid-names : (b : Book) → valid b ≡ true → (p : Pool) → all_names (names p b) ≡ true
unfolding valid
valid-names b v = (prefix_valid b (and_left _ _ v)).names-made
