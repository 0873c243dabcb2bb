-- Laws of images, and of sets side by side, for every number of sets and words.
use Prim.Native.Nat.{ℕ, suc, ◌+◌, ◌*◌, ◌/◌, ◌%◌, ◌^◌, ◌≤◌, ◌<◌}
use mathlib.Core.Bool.{Bool, false, ◌&&◌, ◌||◌, and_assoc, and_comm, or_assoc, or-false, and-false, and-or_distrib_left}
use mathlib.Core.List.{List}
use mathlib.Core.Path.{◌≡◌, refl, sym, ap, ap₂, ◌∙◌, subst}
use native.Mathlib.Nat.{mod-lt, mod-mod, div-eq_of_lt, mul-add-div_right, mul-add-mod_self_right, add-zero, mul-le-mul_right, suc-mul}
use native.Mathlib.Omega.{arith}
use lib.Dec.{eqb}
use lib.ListN.{length, get_or, replicate, length-replicate}
use Rattle.base.specs.Bounded.{some}
use Rattle.base.proofs.Bounded.{some_ext, some-none, some_or, some_and, some-swap, some_eq}
use Rattle.nodeset.specs.Words.{has, words_of}
use Rattle.nodeset.proofs.Sets.{own, words_of_ext, has-words_of, length-words_of, has_zeros}
use Rattle.paths.specs.Images.{image, with_image, with_images, joined_sets}

-- ---- images

module _ (n : ℕ) where
  pub image_ext : (r q : ℕ → ℕ → Bool) (s t : ℕ → Bool) (w : ℕ) → ((v : ℕ) → v < n → s v ≡ t v) → ((v : ℕ) → v < n → r v w ≡ q v w) → image n r s w ≡ image n q t w
  unfolding image
  image_ext r q s t w h g = some_ext (λ v. s v && r v w) (λ v. t v && q v w) n (λ v l. ap₂ (λ (a b : Bool). a && b) (h v l) (g v l))

  image-none : (s : ℕ → Bool) (w : ℕ) → image n (λ v w. false) s w ≡ false
  unfolding image
  image-none s w = some_ext (λ v. s v && false) (λ v. false) n (λ v l. and-false (s v)) ∙ some-none n

  image_or : (r q : ℕ → ℕ → Bool) (s : ℕ → Bool) (w : ℕ) → image n (λ v w. r v w || q v w) s w ≡ (image n r s w || image n q s w)
  unfolding image
  image_or r q s w = some_ext (λ v. s v && (r v w || q v w)) (λ v. (s v && r v w) || (s v && q v w)) n (λ v l. and-or_distrib_left (s v) (r v w) (q v w)) ∙ some_or (λ v. s v && r v w) (λ v. s v && q v w) n

  -- one relation after another
  image-chain : (r q : ℕ → ℕ → Bool) (s : ℕ → Bool) (w : ℕ) → image n (λ v w. some (λ u. r v u && q u w) n) s w ≡ image n q (image n r s) w
  unfolding image
  image-chain r q s w =
      some_ext (λ v. s v && some (λ u. r v u && q u w) n) (λ v. some (λ u. s v && (r v u && q u w)) n) n (λ v l. sym (some_and (s v) (λ u. r v u && q u w) n))
      ∙ some-swap (λ v u. s v && (r v u && q u w)) n n
      ∙ some_ext (λ u. some (λ v. s v && (r v u && q u w)) n) (λ u. some (λ v. s v && r v u) n && q u w) n λ u l.
      some_ext (λ v. s v && (r v u && q u w)) (λ v. q u w && (s v && r v u)) n (λ v l'. turn (s v) (r v u) (q u w)) ∙ some_and (q u w) (λ v. s v && r v u) n ∙ and_comm (q u w) (some (λ v. s v && r v u) n)
    where
      turn : (a b c : Bool) → (a && (b && c)) ≡ (c && (a && b))
      turn a b c = sym (and_assoc a b c) ∙ and_comm (a && b) c

  -- by a single pair of nodes
  pub image-pair : (a b : ℕ) (s : ℕ → Bool) (w : ℕ) → a < n → image n (λ v w. eqb a v && eqb b w) s w ≡ (s a && eqb b w)
  unfolding image
  image-pair a b s w l = some_ext (λ v. s v && (eqb a v && eqb b w)) (λ v. eqb a v && (s v && eqb b w)) n (λ v _. turn (s v) (eqb a v) (eqb b w)) ∙ some_eq (λ v. s v && eqb b w) a n l
    where
      turn : (x y z : Bool) → (x && (y && z)) ≡ (y && (x && z))
      turn x y z = sym (and_assoc x y z) ∙ ap (λ (c : Bool). c && z) (and_comm x y) ∙ and_assoc y x z

-- ---- sets side by side

module _ (width n : ℕ) where
  pub length_images : (r : ℕ → ℕ → Bool) (from : ℕ → Bool) (into : List ℕ) → length (with_images width n r from into) ≡ length into
  unfolding with_images
  length_images r from into = length-words_of (λ x. has into x || image n r (λ v. from (v * width + x % width)) (x / width)) (length into)

  pub has_images : (r : ℕ → ℕ → Bool) (from : ℕ → Bool) (into : List ℕ) (x : ℕ) → x < 64 * length into → has (with_images width n r from into) x ≡ (has into x || image n r (λ v. from (v * width + x % width)) (x / width))
  unfolding with_images
  has_images r from into x l = has-words_of (λ x. has into x || image n r (λ v. from (v * width + x % width)) (x / width)) (length into) x l

  pub images_ext : (r q : ℕ → ℕ → Bool) (from : ℕ → Bool) (into : List ℕ) → ((v w : ℕ) → v < n → r v w ≡ q v w) → with_images width n r from into ≡ with_images width n q from into
  unfolding with_images
  images_ext r q from into h = words_of_ext (λ x. has into x || image n r (λ v. from (v * width + x % width)) (x / width)) (λ x. has into x || image n q (λ v. from (v * width + x % width)) (x / width)) (length into) λ x l.
      ap (λ (b : Bool). has into x || b) (image_ext n r q (λ v. from (v * width + x % width)) (λ v. from (v * width + x % width)) (x / width) (λ v _. refl) (λ v l'. h v (x / width) l'))

  -- nothing more
  pub images_none : (from : ℕ → Bool) (into : List ℕ) → ((i : ℕ) → get_or into i 0 < 2 ^ 64) → into ≡ with_images width n (λ v w. false) from into
  unfolding with_images
  images_none from into small = own into small ∙ words_of_ext (has into) (λ x. has into x || image n (λ v w. false) (λ v. from (v * width + x % width)) (x / width)) (length into) λ x l.
      sym (or-false (has into x)) ∙ ap (λ (b : Bool). has into x || b) (sym (image-none n (λ v. from (v * width + x % width)) (x / width)))

  -- by one relation, and by another
  pub images_or : (r q : ℕ → ℕ → Bool) (from : ℕ → Bool) (into : List ℕ) → with_images width n q from (with_images width n r from into) ≡ with_images width n (λ v w. r v w || q v w) from into
  unfolding with_images
  images_or r q from into =
      ap (words_of (λ x. has (with_images width n r from into) x || image n q (λ v. from (v * width + x % width)) (x / width))) (length_images r from into)
      ∙ words_of_ext (λ x. has (with_images width n r from into) x || image n q (λ v. from (v * width + x % width)) (x / width)) (λ x. has into x || image n (λ v w. r v w || q v w) (λ v. from (v * width + x % width)) (x / width)) (length into) λ x l.
      ap (λ (b : Bool). b || image n q (λ v. from (v * width + x % width)) (x / width)) (has_images r from into x l)
      ∙ or_assoc (has into x) (image n r (λ v. from (v * width + x % width)) (x / width)) (image n q (λ v. from (v * width + x % width)) (x / width))
      ∙ ap (λ (b : Bool). has into x || b) (sym (image_or n r q (λ v. from (v * width + x % width)) (x / width)))

  -- by one relation, and from there by another
  pub images_chain : (r q : ℕ → ℕ → Bool) (from : ℕ → Bool) (into : List ℕ) (k : ℕ) → 0 < width → n * width ≤ 64 * k → with_images width n q (has (with_images width n r from (replicate k 0))) into ≡ with_images width n (λ v w. some (λ u. r v u && q u w) n) from into
  unfolding with_images
  images_chain r q from into k pos room = words_of_ext (λ x. has into x || image n q (λ u. has mid (u * width + x % width)) (x / width)) (λ x. has into x || image n (λ v w. some (λ u. r v u && q u w) n) (λ v. from (v * width + x % width)) (x / width)) (length into) λ x l.
      ap (λ (b : Bool). has into x || b)
      (image_ext n q q (λ u. has mid (u * width + x % width)) (image n r (λ v. from (v * width + x % width))) (x / width) (λ u lu. between x u lu) (λ v _. refl)
      ∙ sym (image-chain n r q (λ v. from (v * width + x % width)) (x / width)))
    where
      mid : List ℕ
      mid = with_images width n r from (replicate k 0)

      inside : (x u : ℕ) → u < n → u * width + x % width < 64 * length {A = ℕ} (replicate k 0)
      inside x u lu = subst (λ (m : ℕ). u * width + x % width < 64 * m) (sym (length-replicate k 0)) (let a : suc u * width ≤ n * width = mul-le-mul_right width lu in omega (arith, suc-mul u width, mod-lt x pos))

      between : (x u : ℕ) → u < n → has mid (u * width + x % width) ≡ image n r (λ v. from (v * width + x % width)) u
      between x u lu =
          let rem : (u * width + x % width) % width ≡ x % width = mul-add-mod_self_right u width (x % width) ∙ mod-mod x width in
          let quo : (u * width + x % width) / width ≡ u = mul-add-div_right pos u (x % width) ∙ ap (λ (a : ℕ). u + a) (div-eq_of_lt (mod-lt x pos)) ∙ add-zero u in
          has_images r from (replicate k 0) (u * width + x % width) (inside x u lu)
          ∙ ap (λ (b : Bool). b || image n r (λ v. from (v * width + (u * width + x % width) % width)) ((u * width + x % width) / width)) (has_zeros k (u * width + x % width))
          ∙ ap₂ (λ (a b : ℕ). image n r (λ v. from (v * width + a)) b) rem quo

  -- by a single pair of nodes
  pub images_pair : (near far : ℕ) (from : ℕ → Bool) (into : List ℕ) → near < n → joined_sets width near far from into ≡ with_images width n (λ v w. eqb near v && eqb far w) from into
  unfolding with_images joined_sets
  images_pair near far from into l = words_of_ext (λ x. has into x || (from (near * width + x % width) && eqb far (x / width))) (λ x. has into x || image n (λ v w. eqb near v && eqb far w) (λ v. from (v * width + x % width)) (x / width)) (length into) λ x lx.
      ap (λ (b : Bool). has into x || b) (sym (image-pair n near far (λ v. from (v * width + x % width)) (x / width) l))

-- one set alone
pub one_set : (n : ℕ) (r : ℕ → ℕ → Bool) (from into : List ℕ) → with_images 1 n r (has from) into ≡ with_image n r from into
unfolding with_images with_image
one_set n r from into = words_of_ext (λ x. has into x || image n r (λ v. has from (v * 1 + x % 1)) (x / 1)) (λ x. has into x || image n r (has from) x) (length into) λ x l.
    ap (λ (b : Bool). has into x || b)
    (ap (image n r (λ v. has from (v * 1 + x % 1))) (let e : x / 1 ≡ x = omega arith in e)
    ∙ image_ext n r r (λ v. has from (v * 1 + x % 1)) (has from) x (λ v _. ap (has from) (let e : v * 1 + x % 1 ≡ v = omega arith in e)) (λ v _. refl))
