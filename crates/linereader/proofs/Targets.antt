-- A target: its head, the name in it and its closing bracket.
use Prim.Native.Nat.{ℕ, zero, suc, ◌+◌, ◌<◌}
use mathlib.Core.Path.{◌≡◌, refl, sym, ap, ◌∙◌}
use mathlib.Core.List.{List, [], ◌∷◌}
use mathlib.Core.Bool.{true, false}
use native.Mathlib.Omega.{arith}
use lib.ListN.{get_or}
use borrow.Author.Tests.{eq-eqb, ne_eqb}
use Rattle.model.specs.Books.{Book, Pool, nodes, links}
use Rattle.model.specs.Rules.{Target}
use Rattle.encoding.specs.Rows.{target_code, target_operand}
use Rattle.grammar.specs.Syntax.{Args, used, target, TargetCode, node_c, subjects_c, objects_c, class_c, target_family}
use Rattle.grammar.specs.Reading.{max_within, Read, got, refused, Readers, Begun, after, arg_at, body_at, bracket_at, deeper, readers_at}
use Rattle.std.specs.Prelude.{Some, None, Result, Ok, Err}
use Rattle.model.specs.Refusals.{fault_of}
use Rattle.model.specs.declared.Fault.{Fault}
use Rattle.itemreader.specs.Answers.{head_at, rest_at}
use Rattle.itemreader.specs.Words.{words_of}
use Rattle.itemreader.proofs.Heads.{rest-none, rest_got, rest_refused, close_not, close_got, bracket-bare, bracket_refused, bracket-word}
use Rattle.linereader.specs.Storing.{operand_pool, target_answer}

-- what an answer says of the reading
pub target_read : (x : Read Target) (code k next : ℕ) → ◌≡◌ {A = Result ((ℕ × ℕ) × ℕ) Fault} (Ok ((code, k), next)) (target_answer x) → (t : Target) × (x ≡ got t next) × (code ≡ target_code t) × (k ≡ target_operand t)
target_read (got t n) code k next p =
    let e : ◌≡◌ {A = (ℕ × ℕ) × ℕ} ((code, k), next) ((target_code t, target_operand t), n) = cc in
    (t, ap (λ (z : (ℕ × ℕ) × ℕ). got t z.1) (sym e), ap (λ (z : (ℕ × ℕ) × ℕ). z.0.0) e, ap (λ (z : (ℕ × ℕ) × ℕ). z.0.1) e)
target_read (refused j) code k next p = let z : ◌≡◌ {A = ℕ} 0 1 = cc in absurd (omega arith)

pub target-no : (x : Read Target) (e : Fault) → ◌≡◌ {A = Result ((ℕ × ℕ) × ℕ) Fault} (Err e) (target_answer x) → (k : ℕ) × (x ≡ refused k) × (e ≡ fault_of k)
target-no (got t n) e p = let z : ◌≡◌ {A = ℕ} 0 1 = cc in absurd (omega arith)
target-no (refused j) e p = (j, refl, cc)

-- ---- the head
module _ (s : List ℕ) (a : Book) (b : Begun) (at : ℕ) where
  pub target-bare : (get_or s at 0 ≡ 32 → ⊥) → arg_at s a (readers_at s a max_within) target b at ≡ refused 2
  unfolding arg_at
  target-bare n = rw (ne_eqb (get_or s at 0) 32 n)

  module _ (z : get_or s at 0 ≡ 32) where
    target-spaced : arg_at s a (readers_at s a max_within) target b at ≡ bracket_at s a target_family (readers_at s a 30) false false (λ c. true) (refused 2) b (at + 1)
    unfolding arg_at readers_at deeper
    target-spaced = rw (eq-eqb (get_or s at 0) 32 z)

    pub target-closed : head_at s (words_of target_family) false false (at + 1) ≡ Ok None → arg_at s a (readers_at s a max_within) target b at ≡ refused 2
    target-closed e = target-spaced ∙ bracket-bare s a target_family (readers_at s a 30) false false (λ c. true) (refused 2) b (at + 1) e

    pub target-unknown : (e : Fault) → head_at s (words_of target_family) false false (at + 1) ≡ Err e → (k : ℕ) × (arg_at s a (readers_at s a max_within) target b at ≡ refused k) × (e ≡ fault_of k)
    target-unknown e p = let (k, x, q) = bracket_refused s a target_family (readers_at s a 30) false false (λ c. true) (refused 2) b (at + 1) e p in (k, target-spaced ∙ x, q)

    pub target-word : (k end : ℕ) → head_at s (words_of target_family) false false (at + 1) ≡ Ok (Some (k, end)) → arg_at s a (readers_at s a max_within) target b at ≡ body_at s a target_family (readers_at s a 30) (λ c. true) (get_or target_family.codes k node_c) b end
    target-word k end e = target-spaced ∙ (bracket-word s a target_family (readers_at s a 30) false false (λ c. true) (refused 2) b (at + 1) k end e).1

-- ---- the name and the closing bracket
module _ (s : List ℕ) (a : Book) (R : Readers) (b : Begun) (at : ℕ) where
  abbrev body : TargetCode → Read Target
  body c = body_at s a target_family R (λ c. true) c b at

  -- by the pool of the name
  module _ (p : Pool) (f : Args (used p ∷ []) → Target) where
    one-stop : (r : ℕ) → arg_at s a R (used p) b at ≡ refused r → rest_at s a R true (used p ∷ []) f b at ≡ refused r
    one-stop r e = rest_refused s a R true (used p) [] f b at r e

    module _ (x last : ℕ) (e : arg_at s a R (used p) b at ≡ got x last) where
      one_open : (get_or s last 0 ≡ 41 → ⊥) → rest_at s a R true (used p ∷ []) f b at ≡ refused 2
      one_open n = rest_got s a R true (used p) [] f b at x last e ∙ rest-none s a R true (λ xs. f (x, xs)) (after (used p) x b) last ∙ close_not s a (f (x, tt)) last true n

      one_got : get_or s last 0 ≡ 41 → rest_at s a R true (used p ∷ []) f b at ≡ got (f (x, tt)) (last + 1)
      one_got z = rest_got s a R true (used p) [] f b at x last e ∙ rest-none s a R true (λ xs. f (x, xs)) (after (used p) x b) last ∙ close_got s a (f (x, tt)) last true z refl

  -- by the number of the word
  abbrev code : ℕ → TargetCode
  code k = get_or target_family.codes k node_c

  pub target-stop : (k r : ℕ) → k < 4 → arg_at s a R (used (operand_pool k)) b at ≡ refused r → body (code k) ≡ refused r
  unfolding body_at
  target-stop zero r h e = one-stop nodes (target_family.build node_c) r e
  target-stop (suc zero) r h e = one-stop links (target_family.build subjects_c) r e
  target-stop (suc (suc zero)) r h e = one-stop links (target_family.build objects_c) r e
  target-stop (suc (suc (suc zero))) r h e = one-stop nodes (target_family.build class_c) r e
  target-stop (suc (suc (suc (suc k)))) r h e = absurd (omega arith)

  pub target_open : (k x last : ℕ) → k < 4 → arg_at s a R (used (operand_pool k)) b at ≡ got x last → (get_or s last 0 ≡ 41 → ⊥) → body (code k) ≡ refused 2
  unfolding body_at
  target_open zero x last h e n = one_open nodes (target_family.build node_c) x last e n
  target_open (suc zero) x last h e n = one_open links (target_family.build subjects_c) x last e n
  target_open (suc (suc zero)) x last h e n = one_open links (target_family.build objects_c) x last e n
  target_open (suc (suc (suc zero))) x last h e n = one_open nodes (target_family.build class_c) x last e n
  target_open (suc (suc (suc (suc k)))) x last h e n = absurd (omega arith)

  pub target_got : (k x last : ℕ) → k < 4 → arg_at s a R (used (operand_pool k)) b at ≡ got x last → get_or s last 0 ≡ 41 → Ok ((k, x), last + 1) ≡ target_answer (body (code k))
  unfolding body_at target_code target_operand
  target_got zero x last h e z = sym (ap target_answer (one_got nodes (target_family.build node_c) x last e z))
  target_got (suc zero) x last h e z = sym (ap target_answer (one_got links (target_family.build subjects_c) x last e z))
  target_got (suc (suc zero)) x last h e z = sym (ap target_answer (one_got links (target_family.build objects_c) x last e z))
  target_got (suc (suc (suc zero))) x last h e z = sym (ap target_answer (one_got nodes (target_family.build class_c) x last e z))
  target_got (suc (suc (suc (suc k)))) x last h e z = absurd (omega arith)
