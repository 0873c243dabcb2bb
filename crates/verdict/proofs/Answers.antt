-- The answer, case by case, and the tallies that go with it.
use Prim.Native.Nat.{ℕ, ◌<◌, ◌≤◌}
use mathlib.Core.List.{List}
use mathlib.Core.Bool.{Bool, true, false, cond, ◌&&◌, and-false}
use mathlib.Core.Path.{◌≡◌, refl, sym, ap, ◌∙◌}
use lib.Dec.{leb, ltb}
use lib.IntN.{ℤ}
use lib.ListN.{length, take}
use lib.Seq.{length-take-le}
use borrow.Author.Tests.{ltb-true, leb-true, le-leb, lt-leb}
use Rattle.base.proofs.Bools.{bool_cases, and_right, two-below}
use Rattle.nodeset.specs.Words.{stored}
use Rattle.consoles.specs.Tallies.{console_count, counted}
use Rattle.consoles.proofs.Counting.{stored_same, stored-counted}
use Rattle.model.specs.Answers.{Answer, value, refusal, is_given}
use Rattle.model.proofs.Answers.{given_passed}
use Rattle.model.specs.Shapes.{conforms}
use Rattle.tables.specs.Layout.{cell_count, value_count, node_count, shape_count, root_at}
use Rattle.tables.specs.Decode.{graph_at, shape_at}
use Rattle.tables.specs.WellFormed.{well_formed}
use Rattle.tables.specs.Sizes.{long_enough}
use Rattle.verdict.specs.Answers.{Question, Reply, has_both, conforms_at, to_console, answer_on, verdict_answer, tallied, replied, reply}

module _ (cs : List ℕ) (vs : List ℤ) (q : Question) where
  pub on_malformed : well_formed cs ≡ false → refusal 9 0 ≡ answer_on cs vs q
  unfolding answer_on
  on_malformed w = rw w

  -- there: what is said of node and shape
  module _ (w : well_formed cs ≡ true) {there : Bool} (et : has_both cs q ≡ there) where
    pub places_there : there ≡ true → (q.node < node_count cs) × (q.shape < shape_count cs)
    places_there h = two-below q.node (node_count cs) q.shape (shape_count cs) (et ∙ h)

    pub on_absent : there ≡ false → refusal 10 0 ≡ answer_on cs vs q
    unfolding answer_on
    on_absent h = rw (w, et ∙ h)

    module _ (h : there ≡ true) where
      pub on-no-console : ltb q.console console_count ≡ false → refusal 11 0 ≡ answer_on cs vs q
      unfolding answer_on
      on-no-console n = rw (w, et ∙ h, n)

      pub on_given : ltb q.console console_count ≡ true → (e : ℕ) {b : Bool} → e ≡ root_at cs q.shape → conforms (graph_at cs vs) (shape_at cs vs e) q.node ≡ b → value b ≡ answer_on cs vs q
      unfolding answer_on
      on_given k e ee hb = rw (w, et ∙ h, k) (ap value (sym hb ∙ ap (λ (e : ℕ). conforms (graph_at cs vs) (shape_at cs vs e) q.node) ee))

-- the verdict is given to a console
to-console : (q : Question) (b : Bool) → is_given (to_console q b) ≡ true → ltb q.console console_count ≡ true
to-console q b = go (ltb q.console console_count)
  where
    go : (t : Bool) → is_given {A = Bool} (cond t (value b) (refusal 11 0)) ≡ true → t ≡ true
    go true g = refl
    go false g = g

module _ (ns cs : List ℕ) (vs : List ℤ) (ts : List ℕ) (q : Question) where
  pub verdict_short : long_enough ns cs vs ≡ false → refusal 8 0 ≡ verdict_answer ns cs vs ts q
  unfolding verdict_answer
  verdict_short h = rw h

  pub verdict_long : long_enough ns cs vs ≡ true → console_count ≤ length ts → answer_on (take cell_count cs) (take value_count vs) q ≡ verdict_answer ns cs vs ts q
  unfolding verdict_answer
  verdict_long h l = rw (h, le-leb console_count (length ts) l)

  -- the tallies count for the answer by their length alone: eight, or fewer
  pub verdict_by_length : (us : List ℕ) → leb console_count (length ts) ≡ leb console_count (length us) → verdict_answer ns cs vs ts q ≡ verdict_answer ns cs vs us q
  unfolding verdict_answer
  verdict_by_length us e = rw e

  -- an answer is given to the eight consoles only, and only where there are eight tallies
  pub given_console : is_given (verdict_answer ns cs vs ts q) ≡ true → (q.console < console_count) × (console_count ≤ length ts)
  unfolding verdict_answer answer_on
  given_console g =
      let cs' = take cell_count cs in
      let x = to_console q (conforms_at cs' (take value_count vs) q) in
      let p = given_passed (long_enough ns cs vs && leb console_count (length ts)) (well_formed cs') (has_both cs' q) x g in
      (ltb-true q.console console_count (to-console q (conforms_at cs' (take value_count vs) q) (ap is_given (sym p.3) ∙ g)), leb-true console_count (length ts) (and_right (long_enough ns cs vs) (leb console_count (length ts)) p.0))

  -- ---- lent tallies
  pub lent-short : length ts < console_count → refusal 8 0 ≡ verdict_answer ns cs vs ts q
  unfolding verdict_answer
  lent-short l = rw (lt-leb console_count (length ts) l, and-false (long_enough ns cs vs))

  -- the first eight of them serve
  module _ (l : console_count ≤ length ts) where
    lent-answer : verdict_answer ns cs vs (take console_count ts) q ≡ verdict_answer ns cs vs ts q
    lent-answer = sym (verdict_by_length (take console_count ts) (le-leb console_count (length ts) l ∙ sym (ap (leb console_count) (length-take-le console_count ts l))))

    lent-tallies : {us : List ℕ} → us ≡ tallied (verdict_answer ns cs vs ts q) q.console (take console_count ts) → stored ts us ≡ tallied (verdict_answer ns cs vs ts q) q.console ts
    lent-tallies e =
        let k = q.console in
        ap (stored ts) e
        ∙ bool_cases (λ b. (b ≡ true → k < console_count) → stored ts (cond b (counted k (take console_count ts)) (take console_count ts)) ≡ cond b (counted k ts) ts) (is_given (verdict_answer ns cs vs ts q))
        (λ t h. stored-counted k ts l (h refl))
        (λ f h. stored_same ts l)
        (λ g. (given_console g).0)

    -- the answer is the same, and the tallies handed back, stored over them, are those of the reply
    pub lent-reply : {held : List ℕ} {r : Reply} → held ≡ take console_count ts → r ≡ reply ns cs vs held q → (r.answer ≡ verdict_answer ns cs vs ts q) × (stored ts r.tallies ≡ tallied (verdict_answer ns cs vs ts q) q.console ts)
    lent-reply {held} {r} eh er =
        let e : r ≡ replied (verdict_answer ns cs vs ts q) q.console (take console_count ts) = er ∙ ap (λ (hs : List ℕ). reply ns cs vs hs q) eh ∙ ap (λ (x : Answer Bool). replied x q.console (take console_count ts)) lent-answer in
        (ap (λ (z : Reply). z.answer) e, lent-tallies (ap (λ (z : Reply). z.tallies) e))
