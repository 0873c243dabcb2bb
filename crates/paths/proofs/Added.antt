-- Adding any path's ends to a set leaves exactly what it held and those ends (document 02, Job 3): what the promises of `spread`,
-- `follow`, `add_ends` and `add_table_ends` say, in words of logic.
use Prim.Native.Nat.{ℕ, ◌+◌, ◌*◌, ◌/◌, ◌%◌, ◌^◌, ◌<◌}
use mathlib.Core.Bool.{Bool, true, ◌&&◌, ◌||◌, or-true}
use mathlib.Core.List.{List}
use mathlib.Core.Logic.{◌⊎◌, inl, inr, ⊎_elim, ◌↔◌}
use mathlib.Core.Path.{◌≡◌, sym, ap, ap₂, ◌∙◌, subst}
use native.Mathlib.Nat.{mod-lt, mod-eq_of_lt, div-eq_of_lt, div-add-mod', mul-add-div_right, mul-add-mod_self_right, add-zero}
use native.Mathlib.Omega.{arith}
use lib.ListN.{length, get_or}
use Rattle.base.proofs.Bools.{and_left, and_right, and_both, or_cases, same_test}
use Rattle.base.proofs.Bounded.{some_at, some_witness}
use Rattle.nodeset.specs.Words.{has}
use Rattle.nodeset.proofs.Sets.{canonical}
use Rattle.model.specs.Graph.{Triple}
use Rattle.model.specs.Paths.{Path, End, ends, ends_of}
use Rattle.paths.specs.Images.{Added, converse_if, image, set_count, start_of, with_image, with_images, with_ends}
use Rattle.paths.specs.declared.Sets.{Sets}
use Rattle.paths.proofs.Images.{length_images, has_images, one_set}
use Rattle.paths.proofs.Codes.{pos}

-- in the set already, or in the image
held_or_led : (n : ℕ) (r : ℕ → ℕ → Bool) (s : ℕ → Bool) (w : ℕ) (b : Bool) → ((b || image n r s w) ≡ true) ↔ ((b ≡ true) ⊎ ((v : ℕ) × (v < n) × (s v ≡ true) × (r v w ≡ true)))
unfolding image
held_or_led n r s w b = (
  λ e. ⊎_elim inl (λ h. inr (let (v, l, q) = some_witness (λ v. s v && r v w) n h in (v, l, and_left (s v) (r v w) q, and_right (s v) (r v w) q))) (or_cases b (image n r s w) e),
  ⊎_elim (λ h. ap (λ (c : Bool). c || image n r s w) h) (λ x. ap (λ (c : Bool). b || c) (some_at (λ v. s v && r v w) n x.0 x.1 (and_both (s x.0) (r x.0 w) x.2 x.3)) ∙ or-true b),
)

module _ (width n : ℕ) (sets : 0 < width) (r : ℕ → ℕ → Bool) (from : ℕ → Bool) (into : List ℕ) where
  -- by any relation, to sets side by side
  pub images_added : Added width n r from into (with_images width n r from into)
  images_added = record {
    long = length_images width n r from into;
    those = λ k w l m. (λ e. (held k w).0 (sym (at k w l m) ∙ e), λ x. at k w l m ∙ (held k w).1 x);
  }
    where
      at : (k w : ℕ) → k < width → w * width + k < 64 * length into → has (with_images width n r from into) (w * width + k) ≡ (has into (w * width + k) || image n r (λ v. from (v * width + k)) w)
      at k w l m =
          let rem : (w * width + k) % width ≡ k = mul-add-mod_self_right w width k ∙ mod-eq_of_lt l in
          let quo : (w * width + k) / width ≡ w = mul-add-div_right sets w k ∙ ap (λ (a : ℕ). w + a) (div-eq_of_lt l) ∙ add-zero w in
          has_images width n r from into (w * width + k) m ∙ ap₂ (λ (a b : ℕ). has into (w * width + k) || image n r (λ v. from (v * width + a)) b) rem quo

      held : (k w : ℕ) → ((has into (w * width + k) || image n r (λ v. from (v * width + k)) w) ≡ true) ↔ ((has into (w * width + k) ≡ true) ⊎ ((v : ℕ) × (v < n) × (from (v * width + k) ≡ true) × (r v w ≡ true)))
      held k w = held_or_led n r (λ v. from (v * width + k)) w (has into (w * width + k))

  -- and there is nothing else that this can be
  pub only_added : {after : List ℕ} → ((i : ℕ) → get_or after i 0 < 2 ^ 64) → Added width n r from into after → after ≡ with_images width n r from into
  unfolding with_images
  only_added {after = after} small a = canonical after (λ x. has into x || image n r (λ v. from (v * width + x % width)) (x / width)) (length into) a.long small λ x l.
      let iff = those x l in
      let led = held_or_led n r (λ v. from (v * width + x % width)) (x / width) (has into x) in
      same_test (has after x) (has into x || image n r (λ v. from (v * width + x % width)) (x / width)) (λ h. led.1 (iff.0 h)) (λ h. iff.1 (led.0 h))
    where
      those : (x : ℕ) → x < 64 * length into → (has after x ≡ true) ↔ ((has into x ≡ true) ⊎ ((v : ℕ) × (v < n) × (from (v * width + x % width) ≡ true) × (r v (x / width) ≡ true)))
      those x l =
          let e : x / width * width + x % width ≡ x = div-add-mod' x width in
          subst (λ (y : ℕ). (has after y ≡ true) ↔ ((has into y ≡ true) ⊎ ((v : ℕ) × (v < n) × (from (v * width + x % width) ≡ true) × (r v (x / width) ≡ true)))) e
          (a.those (x % width) (x / width) (mod-lt x sets) (subst (λ (y : ℕ). y < 64 * length into) (sym e) l))

module _ (n : ℕ) (ts : List Triple) (back : Bool) (from into : List ℕ) where
  -- any path's ends, read either way: the promise of `spread`
  pub ends_added : (sets : Sets) (p : Path) → Added (set_count sets) n (converse_if back (ends n ts p)) (start_of sets from) into (with_ends (set_count sets) n ts p back (start_of sets from) into)
  unfolding with_ends
  ends_added sets p = images_added (set_count sets) n (pos sets) (converse_if back (ends n ts p)) (start_of sets from) into

  -- the ends of any END: the promise of `follow`; and for one set, of `add_ends` and `add_table_ends`
  pub all-ends_added : (sets : Sets) (x : End) → Added (set_count sets) n (converse_if back (ends_of n ts x)) (start_of sets from) into (with_images (set_count sets) n (converse_if back (ends_of n ts x)) (start_of sets from) into)
  all-ends_added sets x = images_added (set_count sets) n (pos sets) (converse_if back (ends_of n ts x)) (start_of sets from) into

  pub set-ends_added : (x : End) → Added 1 n (converse_if back (ends_of n ts x)) (has from) into (with_image n (converse_if back (ends_of n ts x)) from into)
  set-ends_added x = subst (Added 1 n (converse_if back (ends_of n ts x)) (has from) into) (one_set n (converse_if back (ends_of n ts x)) from into) (images_added 1 n (omega arith) (converse_if back (ends_of n ts x)) (has from) into)
