-- The work space, step by step.
use Prim.Native.Nat.{ℕ, zero, suc, ◌+◌, ◌-◌, ◌*◌, ◌≤◌, ◌<◌}
use mathlib.Core.List.{List, ◌++◌, append_assoc, append-nil}
use mathlib.Core.Option.{Option}
use mathlib.Core.Bool.{Bool, true, false, ◌&&◌}
use mathlib.Core.Path.{◌≡◌, refl, sym, ap, ap₂, ◌∙◌}
use mathlib.Core.Logic.{⊎_elim}
use native.Mathlib.Nat.{le_of_eq, eq-or-lt_of_le, le_of_suc-le-suc}
use native.Mathlib.Numerals.{add-one}
use native.Mathlib.Omega.{arith}
use lib.Dec.{ltb}
use lib.IntN.{ℤ}
use lib.ListN.{length, take, drop, length-append, length-drop, drop_of_length-le}
use lib.Seq.{take_all, take_at, drop_at, drop-drop}
use borrow.Rule.Slice.PartMut.{put_mid}
use borrow.Author.Tests.{lt-ltb}
use Rattle.base.proofs.Numbered.{at-number, below-number}
use Rattle.nodeset.specs.Words.{has, stored, nodes_of}
use Rattle.nodeset.proofs.Sets.{length-words_of, has-take, has_of, length_of}
use Rattle.nodeset.proofs.Stores.{stored-whole}
use Rattle.model.specs.Limits.{max_nodes}
use Rattle.tables.specs.Layout.{node_count}
use Rattle.plan.specs.Layout.{step_at, step_count}
use Rattle.plan.specs.Sets.{in_step, set_by, set_at}
use Rattle.plan.specs.WellFormed.{step_ok}
use Rattle.stepsets.proofs.Nodes.{nodes_ext}
use Rattle.runner.specs.Run.{set_words, step_words, filled}
use Rattle.runner.specs.Steps.{step_from, put}
use Rattle.runner.proofs.Steps.{in_step_ext}

-- ---- the part that is lent from word 16 * k on comes back with a step's words in front
pub put-tail : (ws s : List ℕ) {ys : List ℕ} (k n : ℕ) → length s ≡ 16 → 16 * k + 16 ≤ length ws → n ≡ length ws - 16 * k → ys ≡ stored (take n (drop (16 * k) ws)) s → put_mid (16 * k) n ws ys ≡ put ws k s
unfolding put
put-tail ws s k n ls room e q =
    let t : List ℕ = drop (16 * k) ws in
    let len : length t ≡ n = length-drop (16 * k) ws ∙ sym e in
    ap₂ (λ (x y : List ℕ). take (16 * k) ws ++ (x ++ y)) (q ∙ ap (λ (l : List ℕ). stored l s) (take_all n t (le_of_eq len))) (drop_of_length-le t (le_of_eq len))
    ∙ ap (λ (x : List ℕ). take (16 * k) ws ++ x)
    (append-nil (stored t s) ∙ stored-whole t s (omega arith) ∙ ap (λ (m : ℕ). s ++ drop m t) ls ∙ ap (λ (x : List ℕ). s ++ x) (drop-drop 16 (16 * k) ws))

module _ (sub : Option ℕ) (cs : List ℕ) (vs : List ℤ) (ps : List ℕ) where
  length-set-words : (k : ℕ) → length (set_words sub cs vs ps k) ≡ 16
  unfolding set_words nodes_of
  length-set-words k = length-words_of (λ v. ltb v (node_count cs) && set_at sub cs vs ps k v) 16

  length-steps : (k : ℕ) → length (step_words sub cs vs ps k) ≡ 16 * k
  unfolding step_words
  length-steps zero = refl
  length-steps (suc k) = length-append (step_words sub cs vs ps k) (set_words sub cs vs ps k) ∙ (let z : length (step_words sub cs vs ps k) + length (set_words sub cs vs ps k) ≡ 16 * suc k = omega (arith, length-steps k, length-set-words k) in z)

  -- what stands from word 16 * j on, where the steps below k have their words
  part-words : (k j : ℕ) (rest : List ℕ) → j < k → take 16 (drop (16 * j) (step_words sub cs vs ps k ++ rest)) ≡ set_words sub cs vs ps j
  unfolding step_words
  part-words zero j rest l = absurd (omega arith)
  part-words (suc k) j rest l = ap (λ (r : List ℕ). take 16 (drop (16 * j) r)) (append_assoc (step_words sub cs vs ps k) (set_words sub cs vs ps k) rest) ∙ ⊎_elim here (λ l'. part-words k j (set_words sub cs vs ps k ++ rest) l') (eq-or-lt_of_le (le_of_suc-le-suc l))
    where
      here : j ≡ k → take 16 (drop (16 * j) (step_words sub cs vs ps k ++ (set_words sub cs vs ps k ++ rest))) ≡ set_words sub cs vs ps j
      here e =
          ap (take 16) (drop_at (step_words sub cs vs ps k) (set_words sub cs vs ps k ++ rest) (16 * j) (omega (arith, length-steps k)))
          ∙ take_at (set_words sub cs vs ps k) rest 16 (length-set-words k)
          ∙ ap (set_words sub cs vs ps) (sym e)

  module _ (few : node_count cs ≤ max_nodes) where
    part-has : (k j : ℕ) (rest : List ℕ) → j < k → (w : ℕ) → w < node_count cs → has (drop (16 * j) (step_words sub cs vs ps k ++ rest)) w ≡ set_at sub cs vs ps j w
    unfolding set_words nodes_of
    part-has k j rest l w lw =
        sym (has-take (drop (16 * j) (step_words sub cs vs ps k ++ rest)) 16 w (omega arith))
        ∙ has_of (λ v. ltb v (node_count cs) && set_at sub cs vs ps j v) 16 (part-words k j rest l) w (omega arith)
        ∙ ap (λ (b : Bool). b && set_at sub cs vs ps j w) (lt-ltb w (node_count cs) lw)

    -- step k from the words of the steps below it is step k
    step_from_lem : (k : ℕ) (rest : List ℕ) → step_ok cs k (step_at ps k) ≡ true → step_from sub cs vs ps (step_words sub cs vs ps k ++ rest) k ≡ set_words sub cs vs ps k
    unfolding step_from set_words nodes_of set_at set_by
    step_from_lem k rest ok = nodes_ext _ _ (node_count cs) (λ v l.
        in_step_ext sub cs vs k _ _ (λ j lj w lw. part-has k j rest lj w lw ∙ sym (ap (λ (s : ℕ → Bool). s w) (below-number (λ v. false) (λ k sets. in_step sub cs vs (step_at ps k) sets) k j lj))) v l (step_at ps k) ok
        ∙ sym (ap (λ (s : ℕ → Bool). s v) (at-number (λ v. false) (λ k sets. in_step sub cs vs (step_at ps k) sets) k)))

    -- a turn of the loop over the steps
    pub steps-more : (ws : List ℕ) {now : List ℕ} (k : ℕ) → step_ok cs k (step_at ps k) ≡ true → now ≡ step_words sub cs vs ps k ++ drop (16 * k) ws → put now k (step_from sub cs vs ps now k) ≡ step_words sub cs vs ps (k + 1) ++ drop (16 * (k + 1)) ws
    unfolding put step_words
    steps-more ws {now} k ok e =
        ap (λ (l : List ℕ). put l k (step_from sub cs vs ps l k)) e
        ∙ ap₂ (λ (x y : List ℕ). x ++ y) (take_at (step_words sub cs vs ps k) (drop (16 * k) ws) (16 * k) (length-steps k))
        (ap₂ (λ (x y : List ℕ). x ++ y) (step_from_lem k (drop (16 * k) ws) ok) (sym (drop-drop 16 (16 * k) (step_words sub cs vs ps k ++ drop (16 * k) ws)) ∙ ap (drop 16) (drop_at (step_words sub cs vs ps k) (drop (16 * k) ws) (16 * k) (length-steps k)) ∙ drop-drop 16 (16 * k) ws))
        ∙ sym (append_assoc (step_words sub cs vs ps k) (set_words sub cs vs ps k) (drop (16 * k + 16) ws))
        ∙ ap₂ (λ (i m : ℕ). step_words sub cs vs ps i ++ drop m ws) (sym (add-one k)) (let z : 16 * k + 16 ≡ 16 * (k + 1) = omega arith in z)

  pub steps-none : (ws : List ℕ) → ws ≡ step_words sub cs vs ps 0 ++ drop (16 * 0) ws
  unfolding step_words
  steps-none ws = refl

  pub steps_done : (ws : List ℕ) {now : List ℕ} (k : ℕ) → k ≡ step_count ps → now ≡ step_words sub cs vs ps k ++ drop (16 * k) ws → now ≡ filled sub cs vs ps ws
  unfolding filled
  steps_done ws k e h = h ∙ ap (λ (i : ℕ). step_words sub cs vs ps i ++ drop (16 * i) ws) e

  -- ---- what stands in the work space afterwards, from word 16 * k on: the sixteen words of step k, and so its set
  pub filled-words : (ws : List ℕ) (k : ℕ) → k < step_count ps → take 16 (drop (16 * k) (filled sub cs vs ps ws)) ≡ set_words sub cs vs ps k
  unfolding filled
  filled-words ws k l = part-words (step_count ps) k (drop (16 * step_count ps) ws) l

  pub length-filled : (ws : List ℕ) → 16 * step_count ps ≤ length ws → length (filled sub cs vs ps ws) ≡ length ws
  unfolding filled
  length-filled ws room = omega (arith, room, length-append (step_words sub cs vs ps (step_count ps)) (drop (16 * step_count ps) ws), length-steps (step_count ps), length-drop (16 * step_count ps) ws)

  pub filled-has : node_count cs ≤ max_nodes → (ws : List ℕ) (k : ℕ) → k < step_count ps → (v : ℕ) → v < node_count cs → has (drop (16 * k) (filled sub cs vs ps ws)) v ≡ set_at sub cs vs ps k v
  unfolding filled
  filled-has few ws k l v lv = part-has few (step_count ps) k (drop (16 * step_count ps) ws) l v lv

-- a step's words are sixteen
pub length-step : (sub : Option ℕ) (cs : List ℕ) (vs : List ℤ) (ps ws : List ℕ) (k : ℕ) {s : List ℕ} → s ≡ step_from sub cs vs ps ws k → length s ≡ 16
unfolding step_from nodes_of
length-step sub cs vs ps ws k e = length_of _ 16 e
