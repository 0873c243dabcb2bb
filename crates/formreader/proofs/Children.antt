-- The FORMs within a form: their readings one after the other, and its entry after theirs.
use Prim.Native.Nat.{ℕ, ◌+◌, ◌-◌, ◌<◌, ◌≤◌}
use mathlib.Core.Path.{◌≡◌, refl, sym, ap, subst, ◌∙◌}
use mathlib.Core.List.{List, [], ◌∷◌}
use mathlib.Core.Bool.{true}
use native.Mathlib.Omega.{arith}
use lib.IntN.{ℤ}
use Rattle.model.specs.Shapes.{Shape, conj, disj, neg}
use Rattle.model.specs.Books.{Book}
use Rattle.model.specs.Sizes.{path_entries, form_entries, shape_paths, list_items}
use Rattle.grammar.specs.Syntax.{form}
use Rattle.grammar.specs.Reading.{got, refused, Readers, Begun, after, arg_at, close_at}
use Rattle.stores.specs.Entries.{put_form, shape_cells, shape_values}
use Rattle.itemreader.specs.Answers.{rest_at}
use Rattle.itemreader.proofs.Heads.{rest_got, rest_refused}
use Rattle.leafreader.specs.declared.Ended.{Ended}
use Rattle.leafreader.specs.Forms.{begun_of, ended_of, Closes}
use Rattle.leafreader.proofs.Forms.{ended_eq, rest-one}
use Rattle.formreader.specs.declared.Front.{Front}
use Rattle.formreader.specs.Frames.{times, every, quantify, Frame, both, either, negated, along, slots_of, shape_of, front_of, begun_with, frame_cells, put_child}

-- the form with one FORM within, or with two; where a frame has another number of them, any form
abbrev pub one : Frame → Shape → Shape
one both φ = φ
one either φ = φ
one negated φ = neg φ
one (along q e) φ = quantify q e φ

abbrev pub two : Frame → Shape → Shape → Shape
two both φ ψ = conj φ ψ
two either φ ψ = disj φ ψ
two negated φ ψ = φ
two (along q e) φ ψ = φ

-- the code of a frame's entry; those of frames with two FORMs within are the lowest
abbrev pub frame_code : Frame → ℕ
frame_code f = (front_of 0 f 0).code

pub front-code : (n : ℕ) (f : Frame) (next : ℕ) (front : Front) → front ≡ front_of n f next → front.code ≡ frame_code f
front-code n both next front e = ap (λ (p : Front). p.code) e
front-code n either next front e = ap (λ (p : Front). p.code) e
front-code n negated next front e = ap (λ (p : Front). p.code) e
front-code n (along q d) next front e = ap (λ (p : Front). p.code) e

-- what has begun with the frame
pub begun_with_lem : (n : ℕ) (f : Frame) (next : ℕ) (front : Front) (b : Begun) → front ≡ front_of n f next → b.paths ≡ n → ((begun_with f b).forms ≡ b.forms) × ((begun_with f b).paths ≡ front.paths) × ((begun_with f b).items ≡ b.items)
unfolding after
begun_with_lem n both next front b e q = (refl, q ∙ sym (ap (λ (p : Front). p.paths) e), refl)
begun_with_lem n either next front b e q = (refl, q ∙ sym (ap (λ (p : Front). p.paths) e), refl)
begun_with_lem n negated next front b e q = (refl, q ∙ sym (ap (λ (p : Front). p.paths) e), refl)
begun_with_lem n (along k d) next front b e q = (refl, ap (λ (m : ℕ). m + path_entries d) q ∙ sym (ap (λ (p : Front). p.paths) e), refl)

pub begun_forms : (n up f : ℕ) {g : ℕ} → f ≡ n + up → g ≡ f + 1 → g ≡ n + (up + 1)
begun_forms n up f e q = omega arith

-- and with a FORM after it
pub begun_after : (b : Begun) (m l : Ended) (up : ℕ) (φ : Shape) → b.forms ≡ m.forms + up → b.paths ≡ m.paths → b.items ≡ m.items → l ≡ ended_of (after form φ (begun_of m)) → ((after form φ b).forms ≡ l.forms + up) × ((after form φ b).paths ≡ l.paths) × ((after form φ b).items ≡ l.items)
unfolding after
begun_after b m l up φ f p i e = rw e (omega arith, ap (λ (k : ℕ). k + shape_paths φ) p, ap (λ (k : ℕ). k + list_items φ) i)

-- ---- the readings
module _ (s : List ℕ) (a : Book) (R : Readers) (b : Begun) (at : ℕ) where
  pub child_refused : (f : Frame) (k : ℕ) → arg_at s a R form b at ≡ refused k → rest_at s a R true (slots_of f) (shape_of f) b at ≡ refused k
  child_refused both k e = rest_refused s a R true form (form ∷ []) (shape_of both) b at k e
  child_refused either k e = rest_refused s a R true form (form ∷ []) (shape_of either) b at k e
  child_refused negated k e = rest_refused s a R true form [] (shape_of negated) b at k e
  child_refused (along q d) k e = rest_refused s a R true form [] (shape_of (along q d)) b at k e

  module _ (φ : Shape) (next : ℕ) (e : arg_at s a R form b at ≡ got φ next) where
    pub one-rest : (f : Frame) → 4 < frame_code f → rest_at s a R true (slots_of f) (shape_of f) b at ≡ close_at s a true (one f φ) next
    one-rest both h = absurd (omega arith)
    one-rest either h = absurd (omega arith)
    one-rest negated h = rest-one s a R form neg b at φ next e
    one-rest (along q d) h = rest-one s a R form (quantify q d) b at φ next e

    pub second_refused : (f : Frame) (k : ℕ) → frame_code f ≤ 4 → arg_at s a R form (after form φ b) next ≡ refused k → rest_at s a R true (slots_of f) (shape_of f) b at ≡ refused k
    second_refused both k h g = rest_got s a R true form (form ∷ []) (shape_of both) b at φ next e ∙ rest_refused s a R true form [] (λ xs. conj φ xs.0) (after form φ b) next k g
    second_refused either k h g = rest_got s a R true form (form ∷ []) (shape_of either) b at φ next e ∙ rest_refused s a R true form [] (λ xs. disj φ xs.0) (after form φ b) next k g
    second_refused negated k h g = absurd (omega arith)
    second_refused (along (times lo hi) d) k h g = absurd (omega arith)
    second_refused (along every d) k h g = absurd (omega arith)

    pub two-rest : (f : Frame) (ψ : Shape) (last : ℕ) → frame_code f ≤ 4 → arg_at s a R form (after form φ b) next ≡ got ψ last → rest_at s a R true (slots_of f) (shape_of f) b at ≡ close_at s a true (two f φ ψ) last
    two-rest both ψ last h g = rest_got s a R true form (form ∷ []) (shape_of both) b at φ next e ∙ rest-one s a R form (conj φ) (after form φ b) next ψ last g
    two-rest either ψ last h g = rest_got s a R true form (form ∷ []) (shape_of either) b at φ next e ∙ rest-one s a R form (disj φ) (after form φ b) next ψ last g
    two-rest negated ψ last h g = absurd (omega arith)
    two-rest (along (times lo hi) d) ψ last h g = absurd (omega arith)
    two-rest (along every d) ψ last h g = absurd (omega arith)

-- ---- the entries
module _ (n : Ended) (cs : List ℕ) (vs : List ℤ) (φ : Shape) where
  -- n, with the path entries of a frame
  abbrev with_paths : ℕ → Begun
  with_paths p = record { forms = n.forms; paths = p; items = n.items }

  abbrev mid : Frame → ℕ → Begun
  mid f next = with_paths (front_of n.paths f next).paths

  one_entry : (f : Frame) (next : ℕ) → 4 < frame_code f → Closes (one f φ) (begun_of n) cs vs (shape_values (mid f next) φ vs) (ended_of (after form φ (mid f next))) (put_child (front_of n.paths f next) (after form φ (mid f next)).forms (shape_cells (mid f next) φ (frame_cells n.paths f cs)))
  unfolding after form_entries shape_paths list_items shape_cells shape_values
  one_entry both next h = absurd (omega arith)
  one_entry either next h = absurd (omega arith)
  one_entry negated next h = record { ended = ended_eq _ _ (omega arith) refl refl; cells = refl; values = refl }
  one_entry (along (times lo hi) d) next h = record { ended = ended_eq _ _ (omega arith) (omega arith) refl; cells = refl; values = refl }
  one_entry (along every d) next h = record { ended = ended_eq _ _ (omega arith) (omega arith) refl; cells = refl; values = refl }

  two-entry : (f : Frame) (next : ℕ) (ψ : Shape) → frame_code f ≤ 4 → (l k : Begun) → l ≡ after form φ (mid f next) → k ≡ after form ψ l → Closes (two f φ ψ) (begun_of n) cs vs (shape_values l ψ (shape_values (mid f next) φ vs)) (ended_of k) (put_form k.forms (frame_code f) (l.forms - 1) (k.forms - 1) 0 0 (shape_cells l ψ (shape_cells (mid f next) φ (frame_cells n.paths f cs))))
  unfolding after form_entries shape_paths list_items shape_cells shape_values
  two-entry both next ψ h l k e g = rw (g, e) (record { ended = ended_eq _ _ (omega arith) (omega arith) (omega arith); cells = refl; values = refl })
  two-entry either next ψ h l k e g = rw (g, e) (record { ended = ended_eq _ _ (omega arith) (omega arith) (omega arith); cells = refl; values = refl })
  two-entry negated next ψ h l k e g = absurd (omega arith)
  two-entry (along (times lo hi) d) next ψ h l k e g = absurd (omega arith)
  two-entry (along every d) next ψ h l k e g = absurd (omega arith)

  module _ (f : Frame) (next : ℕ) (front : Front) (e : front ≡ front_of n.paths f next) (cs' : List ℕ) (vs' : List ℤ) (c : cs' ≡ frame_cells n.paths f cs) (v : vs' ≡ vs) (l : Ended) (cs1 : List ℕ) (vs1 : List ℤ)
      (le : l ≡ ended_of (after form φ (with_paths front.paths))) (ce : cs1 ≡ shape_cells (with_paths front.paths) φ cs') (ve : vs1 ≡ shape_values (with_paths front.paths) φ vs') where
    pub one_closes : 4 < front.code → Closes (one f φ) (begun_of n) cs vs vs1 l (put_child front l.forms cs1)
    one_closes h = rw (ve, ce, le, v, c, e) (one_entry f next (subst (λ (k : ℕ). 4 < k) (front-code n.paths f next front e) h))

    pub two_closes : front.code ≤ 4 → (ψ : Shape) (k : Ended) (cs2 : List ℕ) (vs2 : List ℤ) → k ≡ ended_of (after form ψ (begun_of l)) → cs2 ≡ shape_cells (begun_of l) ψ cs1 → vs2 ≡ shape_values (begun_of l) ψ vs1 → Closes (two f φ ψ) (begun_of n) cs vs vs2 k (put_form k.forms front.code (l.forms - 1) (k.forms - 1) 0 0 cs2)
    two_closes h ψ k cs2 vs2 ke de we =
        let q = front-code n.paths f next front e in
        rw (we, de, ke, ve, ce, le, v, c, q, e) (two-entry f next ψ (subst (λ (j : ℕ). j ≤ 4) q h) (after form φ (mid f next)) (after form ψ (after form φ (mid f next))) refl refl)
