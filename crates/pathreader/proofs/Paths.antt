-- PATH, case by case: what the reading gives by the tests that the code makes, and what is stored.
use Prim.Native.Nat.{ℕ, zero, suc, ◌+◌, ◌-◌, ◌<◌, ◌≤◌}
use mathlib.Core.Path.{◌≡◌, refl, sym, ap, ap₂, ◌∙◌}
use mathlib.Core.List.{List, [], ◌∷◌}
use mathlib.Core.Bool.{Bool, true, false, not, ◌&&◌, cond, true≢false}
use native.Mathlib.Omega.{arith}
use native.Mathlib.Numerals.{sub-one}
use borrow.Author.Tests.{eq-eqb, ne_eqb, eqb-true}
use lib.Dec.{eqb, leb}
use lib.ListN.{length, get_or, drop, set}
use lib.Seq.{slice, drop-set-lt}
use Rattle.base.specs.Bytes.{bytes, eql}
use Rattle.base.proofs.Bools.{bool_cases}
use Rattle.text.specs.Items.{item_end}
use Rattle.text.proofs.Parts.{inside}
use Rattle.model.specs.Paths.{Path, predicate, inverse, sequence, alternative, zero_or_more, one_or_more, End, self, along}
use Rattle.model.specs.Books.{Book, links}
use Rattle.model.specs.Sizes.{path_entries, end_entries}
use Rattle.model.specs.Limits.{max_paths}
use Rattle.grammar.specs.Syntax.{used, path, end, PathCode, inv_c, seq_c, alt_c, star_c, plus_c, path_family}
use Rattle.grammar.specs.Reading.{Read, got, refused, and_then, Readers, Begun, path_begun, after, space_at, arg_at, end_at, used_at, close_at, body_at, link_at, no_readers, deeper, readers_at}
use Rattle.tables.specs.Layout.{cell_count, path_codes, path_firsts, path_seconds}
use Rattle.stores.specs.Entries.{put_path, path_cells, end_cells}
use Rattle.std.specs.Prelude.{Some, None, Ok, Err}
use Rattle.model.specs.Refusals.{fault_of}
use Rattle.model.specs.declared.Fault.{Fault}
use Rattle.itemreader.specs.Answers.{Item, Head, item_of, head_at, rest_at}
use Rattle.itemreader.specs.Words.{path_words, words_of}
use Rattle.itemreader.proofs.Items.{item_got, item_refused, then_refused, then_got}
use Rattle.itemreader.proofs.Heads.{bracket-bare, bracket_refused, bracket-word, rest-none, rest_got, rest_refused}
use Rattle.pathreader.specs.Paths.{paths_after, ends_after, Done, PathRead, EndRead, Grown, closed}

-- ---- answers
module _ {A : Type 0} {count : ℕ → A → ℕ} {put : ℕ → A → List ℕ → List ℕ} {n : ℕ} {before after : List ℕ} where
  pub done_no : {x : Read A} {r : Item} (k : ℕ) → x ≡ refused k → r ≡ Err (fault_of k) → Done count put x n before after r
  done_no k e q = rw e (record { answer = q; stored = tt })

  pub done_is : {x y : Read A} {r : Item} → x ≡ y → Done count put y n before after r → Done count put x n before after r
  done_is e p = rw e p

  pub done_refused : {x : Read A} {e : Fault} → Done count put x n before after (Err e) → (k : ℕ) × (x ≡ refused k) × (e ≡ fault_of k)
  done_refused {x} {e} p = item_refused (count n) x e p.answer

  -- a fault of a part
  pub done_passed : {B : Type 0} (part : B → ℕ) {y : Read B} {x : Read A} {r : Item} {e : Fault} → ◌≡◌ {A = Item} (Err e) (item_of part y) → r ≡ Err e → ((k : ℕ) → y ≡ refused k → x ≡ refused k) → Done count put x n before after r
  done_passed {B} part {y} {x} {r} {e} p q f = let (k, z, w) = item_refused part y e p in done_no k (f k z) (q ∙ ap Err w)

-- what was accepted
pub record Got {A : Type 0} (entries : A → ℕ) (put : ℕ → A → List ℕ → List ℕ) (x : Read A) (n m next : ℕ) (before after : List ℕ) : Type 0 where
  pub tree : A
  pub is : x ≡ got tree next
  pub count : n + entries tree ≡ m
  pub cells : after ≡ put n tree before

pub path_got : {x : Read Path} {n : ℕ} {before after : List ℕ} (m next : ℕ) → PathRead x n before after (Ok (m, next)) → Got path_entries path_cells x n m next before after
path_got {x} {n} {before} {after} m next p =
    let y = item_got (paths_after n) x m next p.answer in
    record { tree = y.0; is = y.1; count = y.2; cells = rw y.1 at p.stored }

pub end_got : {x : Read End} {n : ℕ} {before after : List ℕ} (m next : ℕ) → EndRead x n before after (Ok (m, next)) → Got end_entries end_cells x n m next before after
end_got {x} {n} {before} {after} m next p =
    let y = item_got (ends_after n) x m next p.answer in
    record { tree = y.0; is = y.1; count = y.2; cells = rw y.1 at p.stored }

-- ---- a bare link
module _ (s : List ℕ) (a : Book) (R : Readers) (b : Begun) (at : ℕ) (full : Bool) where
  pub link_refused : (k : ℕ) → arg_at s a R (used links) b at ≡ refused k → space_at s a at (link_at s a full) ≡ refused k
  unfolding arg_at link_at
  link_refused k e = then_refused (eqb (get_or s at 0) 32) (used_at s a links (at + 1)) _ k e

  module _ (p next : ℕ) (e : arg_at s a R (used links) b at ≡ got p next) where
    link_got : space_at s a at (link_at s a full) ≡ cond full (refused 7) (got (predicate p) next)
    unfolding arg_at link_at
    link_got = then_got (eqb (get_or s at 0) 32) (used_at s a links (at + 1)) _ p next e

    pub link-full : full ≡ true → space_at s a at (link_at s a full) ≡ refused 7
    link-full f = link_got ∙ rw f

    pub link-free : full ≡ false → space_at s a at (link_at s a full) ≡ got (predicate p) next
    link-free f = link_got ∙ rw f

pub link_read : {x : Read Path} {after : List ℕ} (n p next : ℕ) (before : List ℕ) → x ≡ got (predicate p) next → after ≡ put_path n 0 p 0 before → PathRead x n before after (Ok (n + 1, next))
unfolding path_cells path_entries
link_read n p next before e w = rw e (record { answer = refl; stored = w })

-- ---- PATH by the head of its bracket
module _ (s : List ℕ) (a : Book) (b : Begun) (at m : ℕ) (q : b.paths ≡ m) where
  pub path_unspaced : (left : ℕ) → (get_or s at 0 ≡ 32 → ⊥) → arg_at s a (readers_at s a left) path b at ≡ refused 2
  unfolding arg_at
  path_unspaced left n = rw (ne_eqb (get_or s at 0) 32 n)

  module _ (z : get_or s at 0 ≡ 32) where
    -- the same head, by the entries begun and by whether a bracket may be opened
    is-head : (left : ℕ) (deep : Bool) → eqb left 0 ≡ deep → (h : Head) → h ≡ head_at s (words_of path_family) (eqb left 0) (leb max_paths m) (at + 1) → head_at s (words_of path_family) deep (leb max_paths b.paths) (at + 1) ≡ h
    is-head left deep d h e = rw (q, ← d) (sym e)

    some_left : (left : ℕ) → eqb (suc left) 0 ≡ false
    some_left left = ne_eqb (suc left) 0 (λ e. omega arith)

    pub path_bare : (left : ℕ) → ◌≡◌ {A = Head} (Ok None) (head_at s (words_of path_family) (eqb left 0) (leb max_paths m) (at + 1)) → arg_at s a (readers_at s a left) path b at ≡ space_at s a at (link_at s a (leb max_paths m))
    unfolding arg_at readers_at deeper
    path_bare zero e = rw (eq-eqb (get_or s at 0) 32 z) (bracket-bare s a path_family _ true (leb max_paths b.paths) (λ c. true) (link_at s a (leb max_paths b.paths) (at + 1)) (path_begun b) (at + 1) (is-head zero true refl (Ok None) e) ∙ ap (λ (k : ℕ). link_at s a (leb max_paths k) (at + 1)) q)
    path_bare (suc left) e = rw (eq-eqb (get_or s at 0) 32 z) (bracket-bare s a path_family _ false (leb max_paths b.paths) (λ c. true) (link_at s a (leb max_paths b.paths) (at + 1)) (path_begun b) (at + 1) (is-head (suc left) false (some_left left) (Ok None) e) ∙ ap (λ (k : ℕ). link_at s a (leb max_paths k) (at + 1)) q)

    pub path_head_refused : (left : ℕ) (f : Fault) → ◌≡◌ {A = Head} (Err f) (head_at s (words_of path_family) (eqb left 0) (leb max_paths m) (at + 1)) → (k : ℕ) × (arg_at s a (readers_at s a left) path b at ≡ refused k) × (f ≡ fault_of k)
    unfolding arg_at readers_at deeper
    path_head_refused zero f e = rw (eq-eqb (get_or s at 0) 32 z) (bracket_refused s a path_family _ true (leb max_paths b.paths) (λ c. true) (link_at s a (leb max_paths b.paths) (at + 1)) (path_begun b) (at + 1) f (is-head zero true refl (Err f) e))
    path_head_refused (suc left) f e = rw (eq-eqb (get_or s at 0) 32 z) (bracket_refused s a path_family _ false (leb max_paths b.paths) (λ c. true) (link_at s a (leb max_paths b.paths) (at + 1)) (path_begun b) (at + 1) f (is-head (suc left) false (some_left left) (Err f) e))

    pub path_word_lem : (left k stop : ℕ) → ◌≡◌ {A = Head} (Ok (Some (k, stop))) (head_at s (words_of path_family) (eqb left 0) (leb max_paths m) (at + 1)) → arg_at s a (readers_at s a left) path b at ≡ body_at s a path_family (readers_at s a (left - 1)) (λ c. true) (get_or path_family.codes k path_family.other) (path_begun b) stop
    unfolding arg_at readers_at deeper
    path_word_lem zero k stop e = absurd (true≢false (bracket-word s a path_family (no_readers s a) true (leb max_paths b.paths) (λ c. true) (link_at s a (leb max_paths b.paths) (at + 1)) (path_begun b) (at + 1) k stop (is-head zero true refl (Ok (Some (k, stop))) e)).0)
    path_word_lem (suc left) k stop e = rw (eq-eqb (get_or s at 0) 32 z, sub-one) (bracket-word s a path_family _ false (leb max_paths b.paths) (λ c. true) (link_at s a (leb max_paths b.paths) (at + 1)) (path_begun b) (at + 1) k stop (is-head (suc left) false (some_left left) (Ok (Some (k, stop))) e)).1

-- ---- what follows the word, by its number: two paths for seq and alt, 1 and 2; else one
abbrev pub is_one : ℕ → Bool
is_one code = not (eqb code 1) && not (eqb code 2)

-- 0 is inv, 3 is star, 4 is plus
one-cases : (P : ℕ → Type 0) (code : ℕ) → is_one code ≡ true → code < path_words → P 0 → P 3 → P 4 → P code
one-cases P zero o l p q r = p
one-cases P (suc zero) o l p q r = absurd (true≢false (sym o))
one-cases P (suc (suc zero)) o l p q r = absurd (true≢false (sym o))
one-cases P (suc (suc (suc zero))) o l p q r = q
one-cases P (suc (suc (suc (suc zero)))) o l p q r = r
one-cases P (suc (suc (suc (suc (suc code))))) o l p q r = absurd (omega arith)

two_cases : (P : ℕ → Type 0) (code : ℕ) → is_one code ≡ false → P 1 → P 2 → P code
two_cases P zero o p q = absurd (true≢false o)
two_cases P (suc zero) o p q = p
two_cases P (suc (suc zero)) o p q = q
two_cases P (suc (suc (suc code))) o p q = absurd (true≢false (sym (ap₂ (λ (x y : Bool). not x && not y) (ne_eqb (suc (suc (suc code))) 1 (λ e. omega arith)) (ne_eqb (suc (suc (suc code))) 2 (λ e. omega arith))) ∙ o))

abbrev pub one_path : ℕ → Path → Path
one_path code d = cond (eqb code 3) (zero_or_more d) (cond (eqb code 4) (one_or_more d) (inverse d))

abbrev pub two_paths : ℕ → Path → Path → Path
two_paths code d e = cond (eqb code 1) (sequence d e) (alternative d e)

module _ (s : List ℕ) (a : Book) (R : Readers) (b : Begun) (at : ℕ) where
  abbrev body : ℕ → Read Path
  body code = body_at s a path_family R (λ c. true) (get_or path_family.codes code path_family.other) b at

  -- each word has a path after it
  code_refused : (c : PathCode) (k : ℕ) → arg_at s a R path b at ≡ refused k → body_at s a path_family R (λ c. true) c b at ≡ refused k
  unfolding body_at
  code_refused inv_c k e = rest_refused s a R true path _ _ b at k e
  code_refused seq_c k e = rest_refused s a R true path _ _ b at k e
  code_refused alt_c k e = rest_refused s a R true path _ _ b at k e
  code_refused star_c k e = rest_refused s a R true path _ _ b at k e
  code_refused plus_c k e = rest_refused s a R true path _ _ b at k e

  pub body_refused : (code k : ℕ) → arg_at s a R path b at ≡ refused k → body code ≡ refused k
  body_refused code k e = code_refused (get_or path_family.codes code path_family.other) k e

  module _ (d : Path) (next : ℕ) (e : arg_at s a R path b at ≡ got d next) where
    one-rest : (f : Path → Path) → rest_at s a R true (path ∷ []) (λ xs. f xs.0) b at ≡ close_at s a true (f d) next
    one-rest f = rest_got s a R true path [] (λ xs. f xs.0) b at d next e ∙ rest-none s a R true _ (after path d b) next

    pub body_one : (code : ℕ) → is_one code ≡ true → code < path_words → body code ≡ close_at s a true (one_path code d) next
    unfolding body_at
    body_one code o l = one-cases (λ c. body c ≡ close_at s a true (one_path c d) next) code o l (one-rest inverse) (one-rest zero_or_more) (one-rest one_or_more)

    module _ (f : Path → Path → Path) where
      abbrev two-rest : Read Path
      two-rest = rest_at s a R true (path ∷ path ∷ []) (λ xs. f xs.0 xs.1.0) b at

      two-first : two-rest ≡ rest_at s a R true (path ∷ []) (λ xs. f d xs.0) (after path d b) next
      two-first = rest_got s a R true path (path ∷ []) (λ xs. f xs.0 xs.1.0) b at d next e

      two_refused : (k : ℕ) → arg_at s a R path (after path d b) next ≡ refused k → two-rest ≡ refused k
      two_refused k g = two-first ∙ rest_refused s a R true path [] (λ xs. f d xs.0) (after path d b) next k g

      two_got : (e : Path) (last : ℕ) → arg_at s a R path (after path d b) next ≡ got e last → two-rest ≡ close_at s a true (f d e) last
      two_got e last g = two-first ∙ (rest_got s a R true path [] (λ xs. f d xs.0) (after path d b) next e last g ∙ rest-none s a R true _ (after path e (after path d b)) last)

    pub body_second_refused : (code k : ℕ) → is_one code ≡ false → arg_at s a R path (after path d b) next ≡ refused k → body code ≡ refused k
    unfolding body_at
    body_second_refused code k o g = two_cases (λ c. body c ≡ refused k) code o (two_refused sequence k g) (two_refused alternative k g)

    pub body_joined : (code : ℕ) (f : Path) (last : ℕ) → is_one code ≡ false → arg_at s a R path (after path d b) next ≡ got f last → body code ≡ close_at s a true (two_paths code d f) last
    unfolding body_at
    body_joined code f last o g = two_cases (λ c. body c ≡ close_at s a true (two_paths c d f) last) code o (two_got sequence f last g) (two_got alternative f last g)

-- how many entries have begun deeper the bracket, and after its first path
pub begun_first : (b : Begun) (n up : ℕ) → b.paths ≡ n + up → (path_begun b).paths ≡ n + (up + 1)
begun_first b n up q = omega arith

pub begun_second : (b : Begun) (n up m : ℕ) (d : Path) → b.paths ≡ n + up → n + path_entries d ≡ m → (after path d (path_begun b)).paths ≡ m + (up + 1)
unfolding after
begun_second b n up m d q e = omega arith

-- ---- what is stored
module _ (n m : ℕ) (d : Path) (before mid : List ℕ) (c : n + path_entries d ≡ m) (e : mid ≡ path_cells n d before) where
  pub one-count : (code : ℕ) → is_one code ≡ true → code < path_words → n + path_entries (one_path code d) ≡ m + 1
  unfolding path_entries
  one-count code o h = one-cases (λ k. n + path_entries (one_path k d) ≡ m + 1) code o h (omega arith) (omega arith) (omega arith)

  pub one-stored : (code : ℕ) → is_one code ≡ true → code < path_words → put_path m (code + 1) (m - 1) 0 mid ≡ path_cells n (one_path code d) before
  unfolding path_cells
  one-stored code o h = one-cases (λ k. put_path m (k + 1) (m - 1) 0 mid ≡ path_cells n (one_path k d) before) code o h (rw (c, e)) (rw (c, e)) (rw (c, e))

  module _ (l : ℕ) (f : Path) (last : List ℕ) (c' : m + path_entries f ≡ l) (e' : last ≡ path_cells m f mid) where
    both-count : n + suc (path_entries d + path_entries f) ≡ l + 1
    both-count = omega arith

    pub joined_count : (code : ℕ) → n + path_entries (two_paths code d f) ≡ l + 1
    unfolding path_entries
    joined_count code = bool_cases (λ t. n + path_entries (cond t (sequence d f) (alternative d f)) ≡ l + 1) (eqb code 1) (λ _. both-count) (λ _. both-count)

    pub joined_stored : (code : ℕ) → is_one code ≡ false → put_path l (code + 1) (m - 1) (l - 1) last ≡ path_cells n (two_paths code d f) before
    unfolding path_cells
    joined_stored code o = two_cases (λ k. put_path l (k + 1) (m - 1) (l - 1) last ≡ path_cells n (two_paths k d f) before) code o (rw (c, c', ← e, e')) (rw (c, c', ← e, e'))

pub path_drop : (e code x y : ℕ) (cs : List ℕ) → e < max_paths → drop cell_count (put_path e code x y cs) ≡ drop cell_count cs
unfolding put_path
path_drop e code x y cs h =
    drop-set-lt cell_count (set (set cs (path_codes + e) code) (path_firsts + e) x) (path_seconds + e) y (omega arith)
    ∙ (drop-set-lt cell_count (set cs (path_codes + e) code) (path_firsts + e) x (omega arith) ∙ drop-set-lt cell_count cs (path_codes + e) code (omega arith))

-- ---- the closing bracket
module _ (s : List ℕ) (at l : ℕ) where
  pub closed_read : (a : Book) (e : Path) (n : ℕ) (before put other after : List ℕ) (r : Item) → n + path_entries e ≡ l + 1 → put ≡ path_cells n e before → r ≡ closed s at l → after ≡ cond (eqb (get_or s at 0) 41) put other → PathRead (close_at s a true e at) n before after r
  unfolding closed close_at
  closed_read a e n before put other after r c p q w = go (eqb (get_or s at 0) 41) q w
    where
      go : (t : Bool) → r ≡ cond t (Ok (l + 1, at + 1)) (Err Fault.Grammar) → after ≡ cond t put other → PathRead (cond t (got e (at + 1)) (refused 2)) n before after r
      go true q w = record { answer = q ∙ ap (λ (k : ℕ). Ok (k, at + 1)) (sym c); stored = w ∙ p }
      go false q w = record { answer = q; stored = tt }

  pub closed-grown : (n up : ℕ) → n ≤ l + 1 → l + 1 + up ≤ max_paths → Grown n up (length s) (closed s at l)
  unfolding closed
  closed-grown n up h k =
      bool_cases (λ t. Grown n up (length s) (cond t (Ok (l + 1, at + 1)) (Err Fault.Grammar))) (eqb (get_or s at 0) 41)
      (λ e. let b = eqb-true (get_or s at 0) 41 e in let i : at < length s = inside s at (λ z. omega arith) in (h, k, omega arith))
      (λ e. tt)

-- ---- END
module _ (s : List ℕ) (a : Book) (R : Readers) (b : Begun) (at : ℕ) where
  pub end_unspaced : (get_or s at 0 ≡ 32 → ⊥) → arg_at s a R end b at ≡ refused 2
  unfolding arg_at
  end_unspaced n = rw (ne_eqb (get_or s at 0) 32 n)

  module _ (z : get_or s at 0 ≡ 32) (stop : ℕ) (q : stop ≡ item_end s (at + 1)) where
    pub end_self : eql (slice (at + 1) stop s) (bytes "id") ≡ true → arg_at s a R end b at ≡ got self stop
    unfolding arg_at end_at
    end_self e = rw (eq-eqb (get_or s at 0) 32 z, ← q, e)

    pub end-along : eql (slice (at + 1) stop s) (bytes "id") ≡ false → arg_at s a R end b at ≡ and_then (arg_at s a R path b at) (λ e next. got (along e) next)
    unfolding arg_at end_at
    end-along e = rw (eq-eqb (get_or s at 0) 32 z, ← q, e)

pub along_read : (x : Read Path) (n : ℕ) (before after : List ℕ) (r : Item) → PathRead x n before after r → EndRead (and_then x (λ e next. got (along e) next)) n before after r
unfolding end_entries end_cells
along_read (got e next) n before after r p = record { answer = p.answer; stored = p.stored }
along_read (refused k) n before after r p = record { answer = p.answer; stored = tt }

pub self_read : (n next : ℕ) (cs : List ℕ) → EndRead (got self next) n cs cs (Ok (n, next))
unfolding end_entries end_cells
self_read n next cs = let e : n + 0 ≡ n = omega arith in record { answer = ap (λ (k : ℕ). Ok (k, next)) (sym e); stored = refl }

pub grown-less : (m n up len : ℕ) (r : Item) → n ≤ m → Grown m up len r → Grown n up len r
grown-less m n up len (Ok (k, next)) l g = let h = g.0 in (omega arith, g.1, g.2)
grown-less m n up len (Err e) l g = tt
