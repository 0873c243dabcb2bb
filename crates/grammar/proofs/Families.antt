-- A bracket of a family is read exactly, once it is known how each of its words is written.
use Prim.Native.Nat.{ℕ, zero, suc, ◌+◌, ◌≤◌, ◌<◌}
use mathlib.Core.Path.{◌≡◌, refl, sym, ap, ap₂, ◌∙◌, subst}
use mathlib.Core.List.{List, [], ◌∷◌, ◌++◌, map}
use mathlib.Core.Bool.{Bool, true, false, cond}
use mathlib.Core.Logic.{◌⊎◌, inl, inr, ⊎_elim}
use native.Mathlib.Omega.{arith}
use lib.Dec.{eqb}
use lib.ListN.{length, get_or, get_or-map}
use lib.Seq.{slice}
use borrow.Author.Tests.{eqb-true, eq-eqb, ne_eqb}
use Rattle.base.specs.Lists.{allb}
use Rattle.text.specs.Items.{edge, item_end}
use Rattle.text.specs.Pool.{index_of}
use Rattle.text.specs.Spans.{Span}
use Rattle.text.proofs.Spans.{span_join, span_byte, span_head, span_split, span_one}
use Rattle.text.proofs.Words.{plain, word-ends, word-item, item_span}
use Rattle.text.proofs.Places.{index_at}
use Rattle.model.specs.Books.{Book}
use Rattle.grammar.specs.Syntax.{Args, Family}
use Rattle.grammar.specs.Reading.{Read, got, refused, and_then, Begun, Readers, args_at, close_at, body_at, headed, bracket_at}
use Rattle.grammar.proofs.Exact.{Edge, never_refused, passes, fails, one_of, thens, got_value, got_next, ends_of_lem}
use Rattle.grammar.proofs.Leaves.{Pools}
use Rattle.grammar.proofs.Args.{Fit, proper, write_args, AllGood, Exacts, args_edge, args_sound, args_complete}
use Rattle.std.specs.Prelude.{Option, Some, None}

-- within a list the default does not matter
within_list : {A : Type 0} (l : List A) (k : ℕ) (d e : A) → k < length l → get_or l k d ≡ get_or l k e
within_list [] k d e h = absurd (omega arith)
within_list (x ∷ l) zero d e h = refl
within_list (x ∷ l) (suc k) d e h = within_list l k d e (omega arith)

-- code c of a family has a number, by which its word is found, and its list stands last
abbrev pub Placed : {A : Type 0} (F : Family A) → F.Code → Type 0
Placed F c = (k : ℕ) × (index_of (map F.word F.codes) (F.word c) ≡ Some k) × (get_or F.codes k F.other ≡ c) × (allb plain (F.word c) ≡ true) × (proper (F.slots c) ≡ true)

-- the word of the number that was found
pub word_of : {A : Type 0} (F : Family A) (w : List ℕ) (k : ℕ) → index_of (map F.word F.codes) w ≡ Some k → w ≡ F.word (get_or F.codes k F.other)
word_of F w k e =
    let f = (index_at (map F.word F.codes) w k).0 e in
    sym f.1 ∙ within_list (map F.word F.codes) k [] (F.word F.other) f.0 ∙ get_or-map F.word F.codes k F.other

module _ (s : List ℕ) (above : Book) (N : Pools above) {A : Type 0} (F : Family A) (placed : (c : F.Code) → Placed F c) (R : Readers) (d : ℕ) (deep full : Bool) (room : F.Code → Bool) (n : Begun)
    (X : deep ≡ false → Exacts s above R d) (fit : full ≡ false → Fit n) where
  abbrev written : (c : F.Code) → Args (F.slots c) → List ℕ
  written c xs = 40 ∷ (F.word c ++ (write_args above (F.slots c) xs ++ (41 ∷ [])))

  -- x is a bracket of the family that stands there
  pub record Opened (x : A) (at nx : ℕ) : Type 0 where
    pub code : F.Code
    pub args : Args (F.slots code)
    pub made : F.build code args ≡ x
    pub shallow : deep ≡ false
    pub begins : full ≡ false
    pub roomy : room code ≡ true
    pub span : Span s at nx (written code args)
    pub good : AllGood above d n (F.slots code) args

  body_sound : (c : F.Code) → deep ≡ false → full ≡ false → (at : ℕ) → at ≤ length s → (x : A) (nx : ℕ) → body_at s above F R room c n at ≡ got x nx
      → (xs : Args (F.slots c)) × (F.build c xs ≡ x) × (room c ≡ true) × Span s at nx (write_args above (F.slots c) xs ++ (41 ∷ [])) × AllGood above d n (F.slots c) xs
  unfolding body_at close_at
  body_sound c sh be at h x nx e =
      let (xs, m, r, g) = thens (args_at s above R (F.slots c) n at) (λ xs next. close_at s above (room c) (F.build c xs) next) e in
      let u = args_sound s above N R d (X sh) (F.slots c) n (fit be) at h xs m r in
      let p = passes (eqb (get_or s m 0) 41) 2 (cond (room c) (got (F.build c xs) (m + 1)) (refused 7)) g in
      let q = passes (room c) 7 (got (F.build c xs) (m + 1)) p.1 in
      (xs, got_value q.1, q.0, span_join u.0 (subst (λ (k : ℕ). Span s m k (41 ∷ [])) (got_next q.1) (span_byte s m 40 (eqb-true (get_or s m 0) 41 p.0))), u.1)

  head_sound : (at : ℕ) → at ≤ length s → get_or s at 0 ≡ 40 → (r : Option ℕ) → index_of (map F.word F.codes) (slice (at + 1) (item_end s (at + 1)) s) ≡ r → (x : A) (nx : ℕ)
      → headed s above F R deep full room n r (item_end s (at + 1)) ≡ got x nx → Opened x at nx
  head_sound at h o None i x nx e = absurd (never_refused e)
  head_sound at h o (Some k) i x nx e =
      let c = get_or F.codes k F.other in
      let p = fails deep 4 (cond full (refused 7) (body_at s above F R room (get_or F.codes k F.other) n (item_end s (at + 1)))) e in
      let q = fails full 7 (body_at s above F R room (get_or F.codes k F.other) n (item_end s (at + 1))) p.1 in
      let sp = span_byte s at 39 o in
      let it = item_span s (at + 1) sp.within in
      let (xs, m, ro, sq, al) = body_sound (get_or F.codes k F.other) p.0 q.0 (item_end s (at + 1)) it.within x nx q.1 in
      record {
        code = get_or F.codes k F.other;
        args = xs;
        made = m;
        shallow = p.0;
        begins = q.0;
        roomy = ro;
        span = span_join sp (span_join (subst (λ (w : List ℕ). Span s (at + 1) (item_end s (at + 1)) w) (word_of F (slice (at + 1) (item_end s (at + 1)) s) k i) it) sq);
        good = al;
      }

  pub bracket_sound : (bare : Read A) (at : ℕ) → at ≤ length s → (x : A) (nx : ℕ) → bracket_at s above F R deep full room bare n at ≡ got x nx → (bare ≡ got x nx) ⊎ Opened x at nx
  unfolding bracket_at
  bracket_sound bare at h x nx e = ⊎_elim
      (λ t. inr (head_sound at h (eqb-true (get_or s at 0) 40 t.0) (index_of (map F.word F.codes) (slice (at + 1) (item_end s (at + 1)) s)) refl x nx t.1))
      (λ t. inl t.1)
      (one_of (eqb (get_or s at 0) 40) (headed s above F R deep full room n (index_of (map F.word F.codes) (slice (at + 1) (item_end s (at + 1)) s)) (item_end s (at + 1))) bare e)

  -- where no bracket opens, what is bare
  pub bracket-bare : (bare : Read A) (at : ℕ) → (get_or s at 0 ≡ 40 → ⊥) → bracket_at s above F R deep full room bare n at ≡ bare
  unfolding bracket_at
  bracket-bare bare at ne = ap (λ (b : Bool). cond b (headed s above F R deep full room n (index_of (map F.word F.codes) (slice (at + 1) (item_end s (at + 1)) s)) (item_end s (at + 1))) bare) (ne_eqb (get_or s at 0) 40 ne)

  body_complete : (c : F.Code) → deep ≡ false → (at nx : ℕ) (xs : Args (F.slots c)) → Span s at nx (write_args above (F.slots c) xs ++ (41 ∷ [])) → AllGood above d n (F.slots c) xs → room c ≡ true → body_at s above F R room c n at ≡ got (F.build c xs) nx
  unfolding body_at close_at
  body_complete c sh at nx xs p q r =
      let sp = span_split (write_args above (F.slots c) xs) (41 ∷ []) p in
      let mid : ℕ = at + length (write_args above (F.slots c) xs) in
      let o = span_one sp.1 in
      ap (λ (r : Read (Args (F.slots c))). and_then r (λ xs next. close_at s above (room c) (F.build c xs) next)) (args_complete s above N R d (X sh) (F.slots c) n (placed c).4 at mid xs sp.0 q o.1)
      ∙ ap (λ (b : Bool). cond b (cond (room c) (got (F.build c xs) (mid + 1)) (refused 7)) (refused 2)) (eq-eqb (get_or s mid 0) 41 o.1)
      ∙ ap₂ (λ (b : Bool) (k : ℕ). cond b (got (F.build c xs) k) (refused 7)) r o.0

  pub bracket_complete : (c : F.Code) → deep ≡ false → full ≡ false → room c ≡ true → (bare : Read A) (at nx : ℕ) (xs : Args (F.slots c)) → Span s at nx (written c xs) → AllGood above d n (F.slots c) xs → bracket_at s above F R deep full room bare n at ≡ got (F.build c xs) nx
  unfolding bracket_at edge
  bracket_complete c sh be ro bare at nx xs p q =
      let h = span_head p in
      let sp = span_split (F.word c) (write_args above (F.slots c) xs ++ (41 ∷ [])) h.2 in
      let mid : ℕ = at + 1 + length (F.word c) in
      let sq = span_split (write_args above (F.slots c) xs) (41 ∷ []) sp.1 in
      let o = span_one sq.1 in
      let e : Edge s mid = args_edge s above N R d (X sh) (F.slots c) xs mid (mid + length (write_args above (F.slots c) xs)) sq.0 o.1 in
      let (k, found, back, solid, _) = placed c in
      ap (λ (b : Bool). cond b (headed s above F R deep full room n (index_of (map F.word F.codes) (slice (at + 1) (item_end s (at + 1)) s)) (item_end s (at + 1))) bare) (eq-eqb (get_or s at 0) 40 h.1)
      ∙ ap₂ (λ (w : List ℕ) (j : ℕ). headed s above F R deep full room n (index_of (map F.word F.codes) w) j) (word-item (F.word c) sp.0 solid (ends_of_lem s mid e)) (word-ends (F.word c) sp.0 solid (ends_of_lem s mid e))
      ∙ ap (λ (r : Option ℕ). headed s above F R deep full room n r mid) found
      ∙ ap₂ (λ (a b : Bool). cond a (refused 4) (cond b (refused 7) (body_at s above F R room (get_or F.codes k F.other) n mid))) sh be
      ∙ ap (λ (c : F.Code). body_at s above F R room c n mid) back
      ∙ body_complete c sh mid nx xs sp.1 q ro
