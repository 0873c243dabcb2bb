-- FORM: answers, the closing bracket, and what is stored.
use Prim.Native.Nat.{ℕ, ◌+◌, ◌-◌, ◌<◌, ◌≤◌}
use mathlib.Core.Path.{◌≡◌, refl, sym, ap, ◌∙◌}
use mathlib.Core.List.{List, [], ◌∷◌}
use mathlib.Core.Bool.{Bool, true, false, cond}
use native.Mathlib.Omega.{arith}
use borrow.Author.Tests.{eq-eqb, ne_eqb, eqb-true}
use lib.Dec.{eqb}
use lib.IntN.{ℤ}
use lib.ListN.{length, get_or, drop, set}
use lib.Seq.{slice, drop-set-lt}
use lib.Arith.{lt_of_le-ne}
use Rattle.base.specs.Bytes.{bytes, eql}
use Rattle.base.proofs.Bools.{bool_cases}
use Rattle.text.specs.Items.{item_end}
use Rattle.text.proofs.Parts.{inside}
use Rattle.model.specs.Paths.{Path, End, self, along}
use Rattle.model.specs.Shapes.{Shape, top}
use Rattle.model.specs.Books.{Book, Pool}
use Rattle.model.specs.Sizes.{path_entries, end_entries}
use Rattle.model.specs.Limits.{max_forms, max_paths, max_items}
use Rattle.grammar.specs.Syntax.{Slot, Arg, list, form}
use Rattle.grammar.specs.Reading.{Read, got, refused, Readers, Begun, after, arg_at, list_at, close_at, true_at}
use Rattle.tables.specs.Layout.{cell_count, form_codes, form_firsts, form_seconds, form_thirds, form_fourths}
use Rattle.encoding.proofs.Counts.{path_entries_lem}
use Rattle.stores.specs.Entries.{put_form, put_items, path_cells, end_cells, end_operand, shape_cells, shape_values}
use Rattle.itemreader.specs.Answers.{rest_at}
use Rattle.itemreader.proofs.Heads.{rest-none, rest_got}
use Rattle.leafreader.specs.declared.Ended.{Ended}
use Rattle.std.specs.Prelude.{Ok, Err}
use Rattle.model.specs.Refusals.{fault_of}
use Rattle.model.specs.declared.Fault.{Fault}
use Rattle.itemreader.proofs.Items.{ok_pair}
use Rattle.leafreader.specs.Forms.{Form, begun_of, ended_of, form_ended, FormRead, Closes, closed_form, FormsWithin, children_of, form_body, put_item, ListShape, EndShape, PathShape, end_number}

-- ---- answers
module _ {n : Begun} {cs cs' : List ℕ} {vs vs' : List ℤ} {r : Form} where
  pub form_no : {x : Read Shape} (k : ℕ) → x ≡ refused k → r ≡ Err (fault_of k) → FormRead x n cs cs' vs vs' r
  form_no k e q = rw e (record { answer = q; stored = tt })

  pub form_is_lem : {x y : Read Shape} → x ≡ y → FormRead y n cs cs' vs vs' r → FormRead x n cs cs' vs vs' r
  form_is_lem e p = rw e p

pub ended_eq : (n m : Ended) → n.forms ≡ m.forms → n.paths ≡ m.paths → n.items ≡ m.items → n ≡ m
ended_eq n m p q r = parts n.forms n.paths n.items m.forms m.paths m.items p q r
  where
    parts : (a b c a' b' c' : ℕ) → a ≡ a' → b ≡ b' → c ≡ c' → ◌≡◌ {A = Ended} (record { forms = a; paths = b; items = c }) (record { forms = a'; paths = b'; items = c' })
    parts a b c a' b' c' p q r = rw (p, q, r)

pub form_drop : (e code a b c d : ℕ) (cs : List ℕ) → e < max_forms → drop cell_count (put_form e code a b c d cs) ≡ drop cell_count cs
unfolding put_form
form_drop e code a b c d cs h =
    let c1 : List ℕ = set cs (form_codes + e) code in
    let c2 : List ℕ = set c1 (form_firsts + e) a in
    let c3 : List ℕ = set c2 (form_seconds + e) b in
    let c4 : List ℕ = set c3 (form_thirds + e) c in
    drop-set-lt cell_count c4 (form_fourths + e) d (omega arith)
    ∙ (drop-set-lt cell_count c3 (form_thirds + e) c (omega arith)
    ∙ (drop-set-lt cell_count c2 (form_seconds + e) b (omega arith)
    ∙ (drop-set-lt cell_count c1 (form_firsts + e) a (omega arith) ∙ drop-set-lt cell_count cs (form_codes + e) code (omega arith))))

-- ---- the closing bracket
module _ (s : List ℕ) (at : ℕ) (l : Ended) where
  pub closed_form_lem : (a : Book) {φ : Shape} {n : Begun} {cs cs' : List ℕ} {vs vs' : List ℤ} {r : Form} (put other : List ℕ) → Closes φ n cs vs vs' l put → r ≡ closed_form s at l → cs' ≡ cond (eqb (get_or s at 0) 41) put other → FormRead (close_at s a true φ at) n cs cs' vs vs' r
  unfolding closed_form close_at
  closed_form_lem a {φ} {n} {cs} {cs'} {vs} {vs'} {r} put other c q w = go (eqb (get_or s at 0) 41) q w
    where
      go : (t : Bool) → r ≡ cond t (Ok (form_ended l, at + 1)) (Err Fault.Grammar) → cs' ≡ cond t put other → FormRead (cond t (got φ (at + 1)) (refused 2)) n cs cs' vs vs' r
      go true q w = record { answer = q ∙ ap (λ (m : Ended). Ok (m, at + 1)) (sym c.ended); stored = (w ∙ c.cells, c.values) }
      go false q w = record { answer = q; stored = tt }

  pub closed-within : (e up : ℕ) → e ≤ l.forms → l.forms + up < max_forms → l.paths ≤ max_paths → l.items ≤ max_items → FormsWithin e up (length s) (closed_form s at l)
  unfolding closed_form
  closed-within e up h k p i =
      bool_cases (λ t. FormsWithin e up (length s) (cond t (Ok (form_ended l, at + 1)) (Err Fault.Grammar))) (eqb (get_or s at 0) 41)
      (λ y. let z = eqb-true (get_or s at 0) 41 y in let w : at < length s = inside s at (λ x. omega arith) in (omega arith, omega arith, p, i, omega arith))
      (λ y. tt)

-- one argument and the closing bracket
pub rest-one : (s : List ℕ) (a : Book) (R : Readers) (k : Slot) (f : Arg k → Shape) (b : Begun) (at : ℕ) (y : Arg k) (next : ℕ) → arg_at s a R k b at ≡ got y next → rest_at s a R true (k ∷ []) (λ xs. f xs.0) b at ≡ close_at s a true (f y) next
rest-one s a R k f b at y next e = rest_got s a R true k [] (λ xs. f xs.0) b at y next e ∙ rest-none s a R true (λ xs. f y) (after k y b) next

-- ---- operands
pub put_item_lem : (lone : Bool) (e code a : ℕ) (cs : List ℕ) (p q x y : ℕ) → p ≡ cond lone x a → q ≡ cond lone 0 x → y ≡ x → put_form e code p q 0 0 cs ≡ put_item lone e code a cs y
put_item_lem lone e code a cs p q x y f g h = rw (f, g, h)

pub list_arg : (s : List ℕ) (a : Book) (R : Readers) (p : Pool) (b : Begun) (i at : ℕ) → b.items ≡ i → arg_at s a R (list p) b at ≡ list_at s a p (max_items - i) at
unfolding arg_at
list_arg s a R p b i at e = rw e

pub list_closes : (f : List ℕ → Shape) (code : ℕ) → ListShape f code → (n : Ended) (m : ℕ) (ks cs mid : List ℕ) (vs : List ℤ) → n.items + length ks ≡ m → mid ≡ put_items n.items ks cs
    → Closes (f ks) (begun_of n) cs vs vs (record { forms = n.forms; paths = n.paths; items = m }) (put_form n.forms code n.items (m - n.items) 0 0 mid)
list_closes f code h n m ks cs mid vs c e =
    let d : m - n.items ≡ length ks = omega arith in
    rw (d, e, ← c) (h n ks cs vs)

-- an END's number, by the path entries before and after it
pub end_operand_lem : (e : End) (n m : ℕ) → n + end_entries e ≡ m → end_number n m ≡ end_operand m e
unfolding end_operand end_entries
end_operand_lem self n m c = let d : m ≡ n = omega arith in rw (eq-eqb m n d)
end_operand_lem (along e) n m c = let p = path_entries_lem e in rw (ne_eqb m n (λ d. omega arith))

module _ (n : Ended) (m p : ℕ) (cs mid : List ℕ) (vs : List ℤ) where
  pub end_closes : (f : End → ℕ → Shape) (code : ℕ) → EndShape f code → (e : End) (o : ℕ) → n.paths + end_entries e ≡ m → mid ≡ end_cells n.paths e cs → o ≡ end_number n.paths m
      → Closes (f e p) (begun_of n) cs vs vs (record { forms = n.forms; paths = m; items = n.items }) (put_item false n.forms code o mid p)
  end_closes f code h e o c w q = rw (q ∙ end_operand_lem e n.paths m c, w, ← c) (h n e p cs vs)

  pub path_closes : (f : Path → ℕ → Shape) (code : ℕ) → PathShape f code → (e : Path) → n.paths + path_entries e ≡ m → mid ≡ path_cells n.paths e cs
      → Closes (f e p) (begun_of n) cs vs vs (record { forms = n.forms; paths = m; items = n.items }) (put_item false n.forms code (m - 1) mid p)
  path_closes f code h e c w = rw (w, ← c) (h n e p cs vs)

-- ---- values
pub value-stored : {x : Read Shape} {n : Begun} {cs cs' : List ℕ} {vs : List ℤ} {r : Form} (i : ℕ) (v w : ℤ) → w ≡ v → FormRead x n cs cs' vs (set vs i v) r → FormRead x n cs cs' vs (set vs i w) r
value-stored i v w e p = rw e p

-- ---- `true`
module _ (s : List ℕ) (a : Book) (full : Bool) (at end : ℕ) (q : end ≡ item_end s at) where
  pub true_not : eql (slice at end s) (bytes "true") ≡ false → true_at s a full at ≡ refused 2
  unfolding true_at
  true_not e = rw (← q, e)

  pub true_full : eql (slice at end s) (bytes "true") ≡ true → full ≡ true → true_at s a full at ≡ refused 7
  unfolding true_at
  true_full e f = rw (← q, e, f)

  pub true_got : eql (slice at end s) (bytes "true") ≡ true → full ≡ false → true_at s a full at ≡ got top end
  unfolding true_at
  true_got e f = rw (← q, e, f)

-- ---- what an answer says of the reading
-- what was accepted
pub record GotForm (x : Read Shape) (n : Begun) (l : Ended) (next : ℕ) (cs cs' : List ℕ) (vs vs' : List ℤ) : Type 0 where
  pub tree : Shape
  pub is : x ≡ got tree next
  pub ended : l ≡ ended_of (after form tree n)
  pub cells : cs' ≡ shape_cells n tree cs
  pub values : vs' ≡ shape_values n tree vs

module _ {n : Begun} {cs cs' : List ℕ} {vs vs' : List ℤ} where
  pub form_got : {x : Read Shape} (l : Ended) (next : ℕ) → FormRead x n cs cs' vs vs' (Ok (l, next)) → GotForm x n l next cs cs' vs vs'
  form_got {x} l next p = go x p
    where
      go : (x : Read Shape) → FormRead x n cs cs' vs vs' (Ok (l, next)) → GotForm x n l next cs cs' vs vs'
      go (got φ last) p = let e = ok_pair l (ended_of (after form φ n)) next last p.answer in record { tree = φ; is = ap (got φ) (sym e.1); ended = e.0; cells = p.stored.0; values = p.stored.1 }
      go (refused k) p = let z : ◌≡◌ {A = ℕ} 0 1 = cc in absurd (omega arith)

  pub form_refused : {x : Read Shape} {f : Fault} → FormRead x n cs cs' vs vs' (Err f) → (k : ℕ) × (x ≡ refused k) × (f ≡ fault_of k)
  form_refused {x} {f} p = go x p
    where
      go : (x : Read Shape) → FormRead x n cs cs' vs vs' (Err f) → (k : ℕ) × (x ≡ refused k) × (f ≡ fault_of k)
      go (got φ last) p = let z : ◌≡◌ {A = ℕ} 0 1 = cc in absurd (omega arith)
      go (refused j) p = let e = p.answer in (j, refl, cc)

-- ---- words by their numbers
pub body_is : (s : List ℕ) (a : Book) (left code k : ℕ) (b : Begun) (at : ℕ) → code ≡ k → form_body s a left code b at ≡ form_body s a left k b at
body_is s a left code k b at e = rw e

-- past the number k
next : (k code : ℕ) → k ≤ code → (code ≡ k → ⊥) → k < code
next k code l n = lt_of_le-ne l (λ e. n (sym e))

-- the last word without a FORM within
pub last_leaf : (code : ℕ) → code < 20 → children_of code ≡ 0 → (code ≡ 0 → ⊥) → (code ≡ 1 → ⊥) → (code ≡ 5 → ⊥) → (code ≡ 6 → ⊥) → (code ≡ 7 → ⊥) → (code ≡ 8 → ⊥) → (code ≡ 9 → ⊥) → (code ≡ 10 → ⊥) → (code ≡ 11 → ⊥) → (code ≡ 14 → ⊥) → (code ≡ 15 → ⊥) → (code ≡ 16 → ⊥) → (code ≡ 17 → ⊥) → (code ≡ 18 → ⊥) → code ≡ 19
last_leaf code h l n0 n1 n5 n6 n7 n8 n9 n10 n11 n14 n15 n16 n17 n18 =
    let none : (k : ℕ) → (children_of k ≡ 0 → ⊥) → code ≡ k → ⊥ = λ k z e. z (sym (ap children_of e) ∙ l) in
    let g1 : 1 < code = next 1 code (next 0 code (omega arith) n0) n1 in
    let g4 : 4 < code = next 4 code (next 3 code (next 2 code g1 (none 2 (λ e. omega arith))) (none 3 (λ e. omega arith))) (none 4 (λ e. omega arith)) in
    let g8 : 8 < code = next 8 code (next 7 code (next 6 code (next 5 code g4 n5) n6) n7) n8 in
    let g11 : 11 < code = next 11 code (next 10 code (next 9 code g8 n9) n10) n11 in
    let g13 : 13 < code = next 13 code (next 12 code g11 (none 12 (λ e. omega arith))) (none 13 (λ e. omega arith)) in
    let g18 : 18 < code = next 18 code (next 17 code (next 16 code (next 15 code (next 14 code g13 n14) n15) n16) n17) n18 in
    omega arith
