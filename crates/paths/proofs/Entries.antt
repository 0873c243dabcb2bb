-- Path entries by their code: the path that each is, and that its parts stand before it.
use Prim.Native.Nat.{ℕ, zero, suc, ◌≤◌, ◌<◌}
use mathlib.Core.Bool.{Bool, true, false, ◌&&◌, cond, true≢false}
use mathlib.Core.List.{List}
use mathlib.Core.Path.{◌≡◌, refl, sym, ap, ◌∙◌}
use native.Mathlib.Omega.{arith}
use lib.Dec.{eqb, ltb}
use borrow.Author.Tests.{ltb-true, eqb-true, eqb-false}
use Rattle.base.proofs.Bools.{and_left, and_right}
use Rattle.model.specs.Paths.{Path, predicate, inverse, sequence, alternative, zero_or_more, one_or_more}
use Rattle.tables.specs.Codes as codes
use Rattle.tables.specs.Layout.{path_count, path_code_at, path_first_at, path_second_at}
use Rattle.tables.specs.Entries.{PathEntry, link, inv, seq, alt, star, plus, path_entry_of}
use Rattle.tables.specs.Decode.{path_of, path_entry_at, path_at}
use Rattle.tables.specs.WellFormed.{well_formed, path_entry_ok}
use Rattle.tables.proofs.WellFormed.{Sound, sound}
use Rattle.tables.proofs.Decode.{path_at_lem}

-- a path repeated: zero or more times, where they may be none; else one or more
abbrev pub repeated_path : Bool → Path → Path
repeated_path true p = zero_or_more p
repeated_path false p = one_or_more p

-- the code of a right entry is below 6
known : (cs : List ℕ) (e code a b : ℕ) → path_entry_ok cs e (path_entry_of code a b) ≡ true → code < codes.path_unknown
unfolding path_entry_ok path_entry_of
known cs e zero a b h = omega arith
known cs e (suc zero) a b h = omega arith
known cs e (suc (suc zero)) a b h = omega arith
known cs e (suc (suc (suc zero))) a b h = omega arith
known cs e (suc (suc (suc (suc zero)))) a b h = omega arith
known cs e (suc (suc (suc (suc (suc zero))))) a b h = omega arith
known cs e (suc (suc (suc (suc (suc (suc code)))))) a b h = absurd (true≢false (sym h))

-- seq and alt have two parts, which stand before them
two-parts : (cs : List ℕ) (e code a b : ℕ) → codes.path_seq ≤ code → code ≤ codes.path_alt → path_entry_ok cs e (path_entry_of code a b) ≡ true → (ltb a e && ltb b e) ≡ true
unfolding path_entry_ok path_entry_of
two-parts cs e zero a b l m h = absurd (let f : ⊥ = omega arith in f)
two-parts cs e (suc zero) a b l m h = absurd (let f : ⊥ = omega arith in f)
two-parts cs e (suc (suc zero)) a b l m h = h
two-parts cs e (suc (suc (suc zero))) a b l m h = h
two-parts cs e (suc (suc (suc (suc code)))) a b l m h = absurd (let f : ⊥ = omega arith in f)

module _ (cs : List ℕ) (ok : well_formed cs ≡ true) (e : ℕ) (l : e < path_count cs) where
  -- the entry of code k: right, and the path that it makes of its parts
  coded : (k : ℕ) → path_code_at cs e ≡ k → (x : PathEntry) → path_entry_of k (path_first_at cs e) (path_second_at cs e) ≡ x → (path_entry_ok cs e x ≡ true) × (path_at cs e ≡ path_of x (path_at cs))
  unfolding path_entry_at
  coded k q x r =
      let f : path_entry_at cs e ≡ x = ap (λ (k : ℕ). path_entry_of k (path_first_at cs e) (path_second_at cs e)) q ∙ r in
      let s : Sound cs = sound cs ok in
      (ap (path_entry_ok cs e) (sym f) ∙ s.path e l, path_at_lem cs e s l ∙ ap (λ (y : PathEntry). path_of y (path_at cs)) f)

  -- a link
  pub path_link_lem : path_code_at cs e ≡ codes.path_link → path_at cs e ≡ predicate (path_first_at cs e)
  unfolding path_of path_entry_of
  path_link_lem q = (coded 0 q (link (path_first_at cs e)) refl).1

  -- inv
  pub inv_below : path_code_at cs e ≡ codes.path_inv → path_first_at cs e < e
  unfolding path_entry_ok path_entry_of
  inv_below q = ltb-true (path_first_at cs e) e (coded 1 q (inv (path_first_at cs e)) refl).0

  pub path_inv_lem : path_code_at cs e ≡ codes.path_inv → path_at cs e ≡ inverse (path_at cs (path_first_at cs e))
  unfolding path_of path_entry_of
  path_inv_lem q = (coded 1 q (inv (path_first_at cs e)) refl).1

  -- seq and alt: both parts
  pub parts_below : codes.path_seq ≤ path_code_at cs e → path_code_at cs e ≤ codes.path_alt → (path_first_at cs e < e) × (path_second_at cs e < e)
  unfolding path_entry_at
  parts_below h g =
      let q = two-parts cs e (path_code_at cs e) (path_first_at cs e) (path_second_at cs e) h g ((sound cs ok).path e l) in (
        ltb-true (path_first_at cs e) e (and_left (ltb (path_first_at cs e) e) (ltb (path_second_at cs e) e) q),
        ltb-true (path_second_at cs e) e (and_right (ltb (path_first_at cs e) e) (ltb (path_second_at cs e) e) q),
      )

  pub path_seq_lem : path_code_at cs e ≡ codes.path_seq → path_at cs e ≡ sequence (path_at cs (path_first_at cs e)) (path_at cs (path_second_at cs e))
  unfolding path_of path_entry_of
  path_seq_lem q = (coded 2 q (seq (path_first_at cs e) (path_second_at cs e)) refl).1

  pub path_alt_lem : path_code_at cs e ≡ codes.path_alt → path_at cs e ≡ alternative (path_at cs (path_first_at cs e)) (path_at cs (path_second_at cs e))
  unfolding path_of path_entry_of
  path_alt_lem q = (coded 3 q (alt (path_first_at cs e) (path_second_at cs e)) refl).1

  -- star and plus, the codes that are left
  last : codes.path_star ≤ path_code_at cs e → (b : Bool) → eqb (path_code_at cs e) codes.path_star ≡ b → path_code_at cs e ≡ cond b codes.path_star codes.path_plus
  unfolding path_entry_at
  last h true q = eqb-true (path_code_at cs e) codes.path_star q
  last h false q = omega (arith, known cs e (path_code_at cs e) (path_first_at cs e) (path_second_at cs e) ((sound cs ok).path e l), eqb-false (path_code_at cs e) codes.path_star q)

  coded_repeat : (b : Bool) → path_code_at cs e ≡ cond b codes.path_star codes.path_plus → (path_first_at cs e < e) × (path_at cs e ≡ repeated_path b (path_at cs (path_first_at cs e)))
  unfolding path_entry_ok path_of path_entry_of
  coded_repeat true q = let c = coded 4 q (star (path_first_at cs e)) refl in (ltb-true (path_first_at cs e) e c.0, c.1)
  coded_repeat false q = let c = coded 5 q (plus (path_first_at cs e)) refl in (ltb-true (path_first_at cs e) e c.0, c.1)

  pub repeat-part-below : codes.path_star ≤ path_code_at cs e → path_first_at cs e < e
  repeat-part-below h = (coded_repeat (eqb (path_code_at cs e) codes.path_star) (last h (eqb (path_code_at cs e) codes.path_star) refl)).0

  pub path_repeat : codes.path_star ≤ path_code_at cs e → path_at cs e ≡ repeated_path (eqb (path_code_at cs e) codes.path_star) (path_at cs (path_first_at cs e))
  path_repeat h = (coded_repeat (eqb (path_code_at cs e) codes.path_star) (last h (eqb (path_code_at cs e) codes.path_star) refl)).1
