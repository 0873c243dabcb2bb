-- Paths as entries: entries that are there stay, and the last_number entry of a path, read back, is that path.
use Prim.Native.Nat.{ℕ, ◌≤◌, ◌<◌}
use mathlib.Core.List.{List, [], ◌∷◌, ◌++◌}
use mathlib.Core.Bool.{Bool, cond}
use mathlib.Core.Path.{◌≡◌, refl, ap, ap₂, ◌∙◌}
use native.Mathlib.Omega.{arith}
use lib.ListN.{length, length-append}
use borrow.Author.Tests.{ne_eqb}
use Rattle.base.specs.Numbered.{below}
use Rattle.base.proofs.Numbered.{at-number, below-number}
use Rattle.model.specs.Limits.{max_paths}
use Rattle.model.specs.Paths.{Path, predicate, inverse, sequence, alternative, zero_or_more, one_or_more, End, self, along}
use Rattle.tables.specs.Layout.{no_number}
use Rattle.tables.specs.Entries.{PathEntry, link, inv, seq, alt, star, plus, path_entry_of}
use Rattle.tables.specs.Decode.{path_of, path_entry_at, path_at, end_at}
use Rattle.encoding.specs.Rows.{path_row}
use Rattle.encoding.specs.Flatten.{last_number, add_path, Entries, with_end, end_number}
use Rattle.base.proofs.Lists.{Extends}
use Rattle.encoding.proofs.Places.{Gives, gives-front, gives-end, gives-before, extends_more, extends_trans, extends_length}
use Rattle.encoding.proofs.Counts.{path_size, path_entries_lem}

-- an entry's row read back
pub path_back : (x : PathEntry) → path_entry_of (path_row x).code (path_row x).first (path_row x).second ≡ x
unfolding path_entry_of path_row
path_back (link p) = refl
path_back (inv a) = refl
path_back (seq a b) = refl
path_back (alt a b) = refl
path_back (star a) = refl
path_back (plus a) = refl
path_back PathEntry.bad = refl

-- with an entry more
entry_extends : (x : PathEntry) (es ds : List PathEntry) → Extends es ds → Extends es (ds ++ (x ∷ []))
entry_extends x es ds h = extends_trans es ds (ds ++ (x ∷ [])) h (extends_more ds (x ∷ []))

pub path_extends : (e : Path) (es : List PathEntry) → Extends es (add_path e es)
unfolding add_path
path_extends (predicate p) es = extends_more es (link p ∷ [])
path_extends (inverse d) es = entry_extends (inv _) es (add_path d es) (path_extends d es)
path_extends (sequence d e) es = let ds = add_path d es in let fs = add_path e ds in entry_extends (seq _ _) es fs (extends_trans es ds fs (path_extends d es) (path_extends e ds))
path_extends (alternative d e) es = let ds = add_path d es in let fs = add_path e ds in entry_extends (alt _ _) es fs (extends_trans es ds fs (path_extends d es) (path_extends e ds))
path_extends (zero_or_more d) es = entry_extends (star _) es (add_path d es) (path_extends d es)
path_extends (one_or_more d) es = entry_extends (plus _) es (add_path d es) (path_extends d es)

pub last_snoc : {A : Type 0} (xs : List A) (x : A) → last_number (xs ++ (x ∷ [])) ≡ length xs
last_snoc xs x = omega (arith, length-append xs (x ∷ []))

pub path_last : (e : Path) (es : List PathEntry) → last_number (add_path e es) < length (add_path e es)
path_last e es = omega (arith, path_size e es, path_entries_lem e)

module _ (cs : List ℕ) where
  abbrev lower : ℕ → ℕ → Path
  lower = below (predicate 0) (λ e at. path_of (path_entry_at cs e) at)

  -- the entry at the end of a list, by its parts
  path_end : (es : List PathEntry) (x : PathEntry) → Gives (path_entry_at cs) (es ++ (x ∷ [])) → path_at cs (last_number (es ++ (x ∷ []))) ≡ path_of x (lower (length es))
  unfolding path_at
  path_end es x h =
      ap (path_at cs) (last_snoc es x) ∙ at-number (predicate 0) (λ e at. path_of (path_entry_at cs e) at) (length es)
      ∙ ap (λ (y : PathEntry). path_of y (lower (length es))) (gives-end (path_entry_at cs) es x h)

  lower-at : (n k : ℕ) → k < n → lower n k ≡ path_at cs k
  unfolding path_at
  lower-at n k l = below-number (predicate 0) (λ e at. path_of (path_entry_at cs e) at) n k l

  -- an entry of one part, the last of ds
  one-part : (f : Path → Path) (g : ℕ → PathEntry) → ((m : ℕ) (at : ℕ → Path) → path_of (g m) at ≡ f (at m)) → (d : Path) (ds : List PathEntry) → last_number ds < length ds → Gives (path_entry_at cs) (ds ++ (g (last_number ds) ∷ [])) → (Gives (path_entry_at cs) ds → path_at cs (last_number ds) ≡ d) → path_at cs (last_number (ds ++ (g (last_number ds) ∷ []))) ≡ f d
  one-part f g of d ds l h p =
      path_end ds (g (last_number ds)) h ∙ of (last_number ds) (lower (length ds))
      ∙ ap f (lower-at (length ds) (last_number ds) l ∙ p (gives-front (path_entry_at cs) ds (g (last_number ds) ∷ []) h))

  -- an entry of two parts, the last of ds and the last of fs
  two-parts : (f : Path → Path → Path) (g : ℕ → ℕ → PathEntry) → ((m n : ℕ) (at : ℕ → Path) → path_of (g m n) at ≡ f (at m) (at n)) → (d e : Path) (ds fs : List PathEntry) → last_number ds < length ds → last_number fs < length fs → Extends ds fs → Gives (path_entry_at cs) (fs ++ (g (last_number ds) (last_number fs) ∷ [])) → (Gives (path_entry_at cs) ds → path_at cs (last_number ds) ≡ d) → (Gives (path_entry_at cs) fs → path_at cs (last_number fs) ≡ e) → path_at cs (last_number (fs ++ (g (last_number ds) (last_number fs) ∷ []))) ≡ f d e
  two-parts f g of d e ds fs k l x h p q =
      let y = g (last_number ds) (last_number fs) in
      let hf : Gives (path_entry_at cs) fs = gives-front (path_entry_at cs) fs (y ∷ []) h in
      path_end fs y h ∙ of (last_number ds) (last_number fs) (lower (length fs))
      ∙ ap₂ f (lower-at (length fs) (last_number ds) (omega (arith, extends_length ds fs x)) ∙ p (gives-before (path_entry_at cs) ds fs x hf)) (lower-at (length fs) (last_number fs) l ∙ q hf)

  -- the last_number entry of a path is the path
  pub path_read : (e : Path) (es : List PathEntry) → Gives (path_entry_at cs) (add_path e es) → path_at cs (last_number (add_path e es)) ≡ e
  unfolding add_path path_of
  path_read (predicate p) es h = path_end es (link p) h
  path_read (inverse d) es h = one-part inverse inv (λ m at. refl) d (add_path d es) (path_last d es) h (path_read d es)
  path_read (sequence d e) es h = let ds = add_path d es in two-parts sequence seq (λ m n at. refl) d e ds (add_path e ds) (path_last d es) (path_last e ds) (path_extends e ds) h (path_read d es) (path_read e ds)
  path_read (alternative d e) es h = let ds = add_path d es in two-parts alternative alt (λ m n at. refl) d e ds (add_path e ds) (path_last d es) (path_last e ds) (path_extends e ds) h (path_read d es) (path_read e ds)
  path_read (zero_or_more d) es h = one-part zero_or_more star (λ m at. refl) d (add_path d es) (path_last d es) h (path_read d es)
  path_read (one_or_more d) es h = one-part one_or_more plus (λ m at. refl) d (add_path d es) (path_last d es) h (path_read d es)

  -- END by its number, where the path entries are few
  pub end_read : (f : End) (es : Entries) → Gives (path_entry_at cs) (with_end f es).paths → length (with_end f es).paths ≤ max_paths → end_at cs (end_number f (with_end f es)) ≡ f
  unfolding end_at with_end end_number
  end_read self es h l = refl
  end_read (along e) es h l =
      let k = last_number (add_path e es.paths) in
      ap (λ (t : Bool). cond t self (along (path_at cs k))) (ne_eqb k no_number (λ q. let z : ⊥ = omega (arith, path_last e es.paths) in z)) ∙ ap along (path_read e es.paths h)
