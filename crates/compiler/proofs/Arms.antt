-- The arms of the match over the entry codes: what a callee stored is the part of the entry with that code.
use Prim.Native.Nat.{ℕ, ◌≤◌, ◌<◌}
use mathlib.Core.List.{List, []}
use mathlib.Core.Path.{◌≡◌, refl, sym, ap, ◌∙◌, subst}
use native.Mathlib.Nat.{add-zero}
use lib.ListN.{get_or-eq_default}
use Rattle.tables.specs.Codes as codes
use Rattle.tables.specs.Layout.{form_code_at, form_first_at, form_second_at, form_third_at, form_fourth_at, limit_at, root_at, no_number}
use Rattle.tables.specs.Entries.{Entry, entry_of}
use Rattle.tables.specs.Decode.{entry_at}
use Rattle.tablecheck.proofs.Codes.{in_range_lem}
use Rattle.plan.specs.Steps.{Step, numbers_of}
use Rattle.plan.specs.Layout.{with_steps}
use Rattle.translation.specs.Compile.{Part, taken, two, count_part, entry_part}
use Rattle.compiler.specs.declared.Pair.{Pair}
use Rattle.compiler.specs.declared.pairs.Pairs.{Pairs}
use Rattle.compiler.specs.Stores.{keep_of, break_of, TwoAdded, Added}
use Rattle.translation.proofs.Whole.{by_code_lem}
use Rattle.compiler.proofs.Laws.{two_added}

-- what has been read where the match begins: the cells, the plan, the entries' steps so far, the entry, the
-- number of the next step, and the entry's code
pub record Read : Type 0 where
  pub cs : List ℕ
  pub ps : List ℕ
  pub pairs : Pairs
  pub e : ℕ
  pub n : ℕ
  pub code : ℕ
  pub same : code ≡ form_code_at cs e

-- qs: the plan after an arm; next: the number of the step after it; o: what the arm answers
module _ (h : Read) (qs : List ℕ) (next : ℕ) (o : Pair) where
  abbrev part : Entry → Part
  part x = entry_part h.cs (keep_of h.pairs) (break_of h.pairs) h.n h.e x

  -- the entry's operands; the entry, if its code is i
  abbrev first : ℕ
  first = form_first_at h.cs h.e

  abbrev second : ℕ
  second = form_second_at h.cs h.e

  abbrev third : ℕ
  third = form_third_at h.cs h.e

  abbrev fourth : ℕ
  fourth = form_fourth_at h.cs h.e

  abbrev coded : ℕ → Entry
  coded i = entry_of i first second third fourth (limit_at [] h.e)

  -- the keeping step of entry j, and the breaking one
  abbrev kept : ℕ → ℕ
  kept = keep_of h.pairs

  abbrev broken : ℕ → ℕ
  broken = break_of h.pairs

  -- what was stored: a part; that of the entry; two steps
  abbrev Done : Part → Type 0
  Done x = Added h.ps qs h.n x next o.keep o.breaking

  abbrev Entered : Type 0
  Entered = Done (part (entry_at h.cs [] h.e))

  abbrev Two : Step → Step → Type 0
  Two s t = TwoAdded h.ps qs h.n (numbers_of s) (numbers_of t) next o.keep o.breaking

  arm : (i : ℕ) (x : Part) → h.code ≡ i → part (coded i) ≡ x → Done x → Entered
  unfolding entry_at
  arm i x z f r = subst Done (sym f ∙ ap (λ (j : ℕ). part (coded j)) (sym z ∙ h.same)) r

  -- an entry with two steps
  arm_two : (i : ℕ) (s t : Step) → h.code ≡ i → part (coded i) ≡ two h.n s t → Two s t → Entered
  arm_two i s t z f r = arm i (two h.n s t) z f (two_added h.ps qs h.n s t next o.keep o.breaking r)

  -- an entry with none
  arm_taken : (i a b : ℕ) → h.code ≡ i → part (coded i) ≡ taken a b → qs ≡ h.ps → next ≡ h.n → o.keep ≡ a → o.breaking ≡ b → Entered
  unfolding with_steps
  arm_taken i a b z f q en ek em = arm i (taken a b) z f (record { stored = q; after = en ∙ sym (add-zero h.n); keeps = ek; breaks = em })

  pub arm_top : h.code ≡ codes.form_true → Two Step.all Step.none → Entered
  unfolding entry_of entry_part
  arm_top z r = arm_two codes.form_true Step.all Step.none z refl r

  pub arm_is : h.code ≡ codes.form_is → Two (Step.is first) (Step.isnot first) → Entered
  unfolding entry_of entry_part
  arm_is z r = arm_two codes.form_is (Step.is first) (Step.isnot first) z refl r

  pub arm_shape : h.code ≡ codes.form_shape → qs ≡ h.ps → next ≡ h.n → o.keep ≡ kept (root_at h.cs first) → o.breaking ≡ broken (root_at h.cs first) → Entered
  unfolding entry_of entry_part
  arm_shape z q en ek em = arm_taken codes.form_shape (kept (root_at h.cs first)) (broken (root_at h.cs first)) z refl q en ek em

  pub arm_conj : h.code ≡ codes.form_and → Two (Step.both (kept first) (kept second)) (Step.either (broken first) (broken second)) → Entered
  unfolding entry_of entry_part
  arm_conj z r = arm_two codes.form_and (Step.both (kept first) (kept second)) (Step.either (broken first) (broken second)) z refl r

  pub arm_disj : h.code ≡ codes.form_or → Two (Step.either (kept first) (kept second)) (Step.both (broken first) (broken second)) → Entered
  unfolding entry_of entry_part
  arm_disj z r = arm_two codes.form_or (Step.either (kept first) (kept second)) (Step.both (broken first) (broken second)) z refl r

  pub arm_neg : h.code ≡ codes.form_not → qs ≡ h.ps → next ≡ h.n → o.keep ≡ broken first → o.breaking ≡ kept first → Entered
  unfolding entry_of entry_part
  arm_neg z q en ek em = arm_taken codes.form_not (broken first) (kept first) z refl q en ek em

  pub arm_test : codes.form_kind ≤ h.code → h.code < codes.form_count → Two (Step.test h.e) (Step.untest h.e) → Entered
  unfolding entry_of entry_part
  arm_test low high r = arm_two h.code (Step.test h.e) (Step.untest h.e) refl (in_range_lem (λ i. part (coded i) ≡ two h.n (Step.test h.e) (Step.untest h.e)) codes.form_kind 7 h.code low high (refl, (refl, (refl, (refl, (refl, (refl, (refl, tt)))))))) r

  pub arm_count : h.code ≡ codes.form_count → Done (count_part h.n first (kept second) third fourth) → Entered
  unfolding entry_of entry_part
  arm_count z r = arm codes.form_count (count_part h.n first (kept second) third fourth) z refl r

  pub arm_all : h.code ≡ codes.form_all → Two (Step.every first (kept second)) (Step.count first (broken second) 1 no_number) → Entered
  unfolding entry_of entry_part
  arm_all z r = arm_two codes.form_all (Step.every first (kept second)) (Step.count first (broken second) 1 no_number) z refl r

  pub arm_equal : h.code ≡ codes.form_equal → Two (Step.equal first second) (Step.unequal first second) → Entered
  unfolding entry_of entry_part
  arm_equal z r = arm_two codes.form_equal (Step.equal first second) (Step.unequal first second) z refl r

  pub arm_apart : h.code ≡ codes.form_apart → Two (Step.apart first second) (Step.meet first second) → Entered
  unfolding entry_of entry_part
  arm_apart z r = arm_two codes.form_apart (Step.apart first second) (Step.meet first second) z refl r

  pub arm_closed : h.code ≡ codes.form_closed → Two (Step.closed h.e) (Step.opened h.e) → Entered
  unfolding entry_of entry_part
  arm_closed z r = arm_two codes.form_closed (Step.closed h.e) (Step.opened h.e) z refl r

  pub arm_less : h.code ≡ codes.form_less → Two (Step.less first second) (Step.notless first second) → Entered
  unfolding entry_of entry_part
  arm_less z r = arm_two codes.form_less (Step.less first second) (Step.notless first second) z refl r

  pub arm_lesseq : h.code ≡ codes.form_lesseq → Two (Step.lesseq first second) (Step.notlesseq first second) → Entered
  unfolding entry_of entry_part
  arm_lesseq z r = arm_two codes.form_lesseq (Step.lesseq first second) (Step.notlesseq first second) z refl r

  pub arm_onelang : h.code ≡ codes.form_onelang → Two (Step.onelang first) (Step.manylang first) → Entered
  unfolding entry_of entry_part
  arm_onelang z r = arm_two codes.form_onelang (Step.onelang first) (Step.manylang first) z refl r

  -- past the last code
  pub arm_unknown : codes.form_onelang < h.code → qs ≡ h.ps → next ≡ h.n → o.keep ≡ 0 → o.breaking ≡ 0 → Entered
  unfolding entry_of entry_part
  arm_unknown l q en ek em = arm_taken h.code 0 0 refl (ap part (get_or-eq_default (by_code_lem first second third fourth (limit_at [] h.e)) Entry.bad l)) q en ek em
