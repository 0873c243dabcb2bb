-- The readers of brackets, of what nests and of a line: what they say is settled by what they have seen, and a refusal has its ground.
use Prim.Native.Nat.{ℕ, zero, suc, ◌+◌, ◌-◌, ◌≤◌, ◌<◌}
use mathlib.Core.Path.{◌≡◌, refl, ap, ◌∙◌, subst}
use mathlib.Core.List.{List, [], ◌∷◌, map}
use mathlib.Core.Bool.{Bool, true, false, not, cond}
use mathlib.Core.Logic.{⊎_elim}
use native.Mathlib.Omega.{arith}
use lib.Dec.{eqb, leb}
use lib.ListN.{length, get_or}
use borrow.Author.Tests.{eqb-true, ltb-false, leb-true, leb-false, not-false}
use Rattle.base.specs.Lists.{anyb}
use Rattle.base.specs.Bytes.{bytes, eql}
use Rattle.base.proofs.Bools.{never_both}
use Rattle.text.specs.Items.{edge, item_end}
use Rattle.text.specs.Pool.{index_of}
use Rattle.text.proofs.Items.{item_end-from, item_end-edge}
use Rattle.text.specs.Spans.{Span}
use Rattle.text.proofs.Spans.{span_byte, span_join}
use Rattle.text.proofs.Words.{item_span}
use Rattle.model.specs.Graph.{iri, lang_string}
use Rattle.model.specs.Paths.{self, along}
use Rattle.model.specs.Books.{Book, nodes, links, types, built_in, names, collect, new_terms, new_triples, rules}
use Rattle.model.specs.Valid.{is_resource}
use Rattle.model.specs.Limits.{max_depth, max_facts, max_forms, max_paths, max_items}
use Rattle.grammar.specs.Writing.{name_of}
use Rattle.grammar.specs.Valid.{well_named}
use Rattle.grammar.specs.Syntax.{Slot, used, new, subject, literal_type, kind_word, value, low, high, path, end, form, target, list, Arg, Args, Family, path_family, form_family, target_family, LineCode, link_l, type_l, lang_l, thing_l, blank_l, number_l, text_l, words_l, fact_l, shape_l, rule_l, line_family}
use Rattle.grammar.specs.Reading.{max_within, Read, got, refused, and_then, Begun, after, form_begun, path_begun, Readers, used_at, subject_at, literal_type_at, new_at, kind_at, value_at, low_at, high_at, end_at, arg_at, args_at, close_at, body_at, headed, bracket_at, link_at, true_at, deeper, no_readers, readers_at, line_room, begun_above, line_at}
use Rattle.grammar.proofs.Exact.{thens, got_next, edge_of, edge-inside}
use Rattle.grammar.proofs.Leaves.{Pools}
use Rattle.grammar.specs.Args.{is_list}
use Rattle.grammar.proofs.Args.{Fit, Exacts, arg_exact}
use Rattle.grammar.proofs.Families.{word_of}
use Rattle.grammar.proofs.Nesting.{readers_exact}
use Rattle.grammar.proofs.Lines.{bracket-line}
use Rattle.grammar.proofs.GroundsLocal.{stop_open, stop-item, stop-past, settled_got, settled_refused, settled-lower, settled-cond, settled-byte, settled-item, settled_then}
use Rattle.grammar.specs.Grounds.{PathSlot, a_path, an_end, any, a-subject, a-type, a-link, words, Fits, path_bracket, form_bracket, target-bracket, Waits, line, inner, next, Opening, Bracket, is-bracket, Ground, no_line, no-line-word, no_space, misfit, no_word, no_close, no_end, nesting, forms-full, paths-full, facts_full, rules-full}
use Rattle.grammar.proofs.Grounds.{waits-inside}
use Rattle.grammar.proofs.GroundsLeaves.{found_none, other_item, Settles, item_at, name_settled, name_check, link-settled, new_settled, kind-settled, value-settled, low-settled, high-settled, true_settled, list_settled}
use Rattle.std.specs.Prelude.{Option, Some, None}

-- where PATH or END is wanted, the words are those of paths
path_words_lem : {k : Slot} → PathSlot k → words k ≡ map path_family.word path_family.codes
path_words_lem a_path = refl
path_words_lem an_end = refl

-- number 0 of the types is `langstring`
type_zero : (above : Book) (a : ℕ) (w : List ℕ) → w ≡ name_of above types a → not (eqb a lang_string) ≡ false → w ≡ bytes "langstring"
unfolding name_of names built_in
type_zero above a w i e = i ∙ ap (name_of above types) (eqb-true a 0 (not-false (eqb a 0) e))

module _ (s : List ℕ) (above : Book) (start : ℕ) where
  -- the readers of what nests, where o brackets are open; Q t: those in the text t
  pub record Nested (Q : List ℕ → Readers) (o : ℕ) : Type 0 where
    pub path_s : {q : ℕ} {k : Slot} {ks : List Slot} {n : Begun} → PathSlot k → (Fits above k (item_at s (q + 1)) → well_named links (item_at s (q + 1)) ≡ true) → Fit n → Waits s above start q (k ∷ ks) n o → get_or s q 0 ≡ 32 → Settles s above start (item_end s (q + 1)) (λ t. (Q t).path_r n (q + 1))
    pub form_s : {q : ℕ} {ks : List Slot} {n : Begun} → Fit n → Waits s above start q (form ∷ ks) n o → get_or s q 0 ≡ 32 → Settles s above start (item_end s (q + 1)) (λ t. (Q t).form_r n (q + 1))
    pub target_s : {q : ℕ} {ks : List Slot} {n : Begun} → Fit n → Waits s above start q (target ∷ ks) n o → get_or s q 0 ≡ 32 → Settles s above start (item_end s (q + 1)) (λ t. (Q t).target_r n (q + 1))

  -- ---- what stands at the places after a word
  module _ (N : Pools above) (Q : List ℕ → Readers) (d o : ℕ) (X : Exacts s above (Q s) d) (S : Nested Q o) where
    -- what is read after a space
    spaced : {A : Type 0} {q : ℕ} {k : Slot} {ks : List Slot} {n : Begun} (read : List ℕ → ℕ → Read A) → Waits s above start q (k ∷ ks) n o → is_list k ≡ false → (get_or s q 0 ≡ 32 → Settles s above start (item_end s (q + 1)) (λ t. read t (q + 1))) → Settles s above start q (λ t. cond (eqb (get_or t q 0) 32) (read t (q + 1)) (refused 2))
    spaced {A} {q} read W l R = settled-byte q 32 (omega arith)
        (λ sp. settled-lower (omega (arith, item_end-from s (q + 1))) (R sp))
        (λ e. settled_refused q (no_space W l e) (stop-past s q))

    end-settled : {q : ℕ} {ks : List Slot} {n : Begun} → Fit n → Waits s above start q (end ∷ ks) n o → get_or s q 0 ≡ 32 → Settles s above start (item_end s (q + 1)) (λ t. end_at t above (Q t) n (q + 1))
    unfolding end_at
    end-settled {q} {ks} {n} f W sp = settled-item (q + 1) (λ t w e. cond (eql w (bytes "id")) (got self e) (and_then ((Q t).path_r n (q + 1)) (λ e next. got (along e) next)))
        (settled-cond (eql (item_at s (q + 1)) (bytes "id")) (λ _. settled_got self (item_end s (q + 1)))
        (λ e. settled_then (S.path_s an_end (⊎_elim (λ i. absurd (other_item (item_at s (q + 1)) (bytes "id") e i)) (λ w. w)) f W sp) (λ e nx _. settled_got (along e) nx)))

    arg_settled : (k : Slot) {q : ℕ} {ks : List Slot} {n : Begun} → Fit n → Waits s above start q (k ∷ ks) n o → Settles s above start q (λ t. arg_at t above (Q t) k n q)
    unfolding arg_at subject_at literal_type_at
    arg_settled (used p) f W = spaced (λ t. used_at t above p) W refl (λ sp. name_settled W sp p any (λ f. f) (λ _. refl))
    arg_settled (new p) f W = spaced (λ t. new_at t above p) W refl (new_settled p W)
    arg_settled subject f W = spaced (λ t. subject_at t above) W refl (λ sp. name_check W sp nodes a-subject (λ f. f.0) (λ _. refl) (λ v. is_resource (get_or (collect new_terms above) v iri)) (λ a i d e f. never_both (f.1 a d i) e))
    arg_settled literal_type {q} f W = spaced (λ t. literal_type_at t above) W refl (λ sp. name_check W sp types a-type (λ f. f.0) (λ _. refl) (λ t. not (eqb t lang_string)) (λ a i d e f. f.1 (type_zero above a (item_at s (q + 1)) i e)))
    arg_settled kind_word f W = spaced (λ t. kind_at t above) W refl (kind-settled W)
    arg_settled value f W = spaced (λ t. value_at t above) W refl (value-settled W)
    arg_settled low f W = spaced (λ t. low_at t above) W refl (low-settled W)
    arg_settled high f W = spaced (λ t. high_at t above) W refl (high-settled W)
    arg_settled path {q} {ks} {n} f W = spaced (λ t. (Q t).path_r n) W refl (S.path_s a_path (λ f. f) f W)
    arg_settled end {q} {ks} {n} f W = spaced (λ t. end_at t above (Q t) n) W refl (end-settled f W)
    arg_settled form {q} {ks} {n} f W = spaced (λ t. (Q t).form_r n) W refl (S.form_s f W)
    arg_settled target {q} {ks} {n} f W = spaced (λ t. (Q t).target_r n) W refl (S.target_s f W)
    arg_settled (list p) {q} {ks} {n} f W = list_settled p (max_items - n.items) W refl

    -- what was read at a place stands there
    arg_waits : {k : Slot} {q m : ℕ} {ks : List Slot} {n : Begun} (a : Arg k) → Fit n → Waits s above start q (k ∷ ks) n o → arg_at s above (Q s) k n q ≡ got a m → Waits s above start m ks (after k a n) o × Fit (after k a n)
    arg_waits {k} {q} {m} {ks} {n} a f W e =
        let (p, g) = (arg_exact s above N (Q s) d X k n f).sound q (waits-inside s above start W) a m e in
        (next W a p g.0, g.2)

    args_settled : (ks : List Slot) {q : ℕ} {n : Begun} → Fit n → Waits s above start q ks n o → Settles s above start q (λ t. args_at t above (Q t) ks n q)
    unfolding args_at
    args_settled [] {q} f W = settled_got tt q
    args_settled (k ∷ ks) {q} {n} f W = settled_then (arg_settled k f W)
        (λ a m e. let u = arg_waits a f W e in settled_then (args_settled ks u.1 u.0) (λ xs last _. settled_got (a, xs) last))

    args_waits : (ks : List Slot) {q m : ℕ} {n : Begun} (xs : Args ks) → Fit n → Waits s above start q ks n o → args_at s above (Q s) ks n q ≡ got xs m → (n' : Begun) × Waits s above start m [] n' o
    unfolding args_at
    args_waits [] {q} {m} {n} xs f W e = (n, subst (λ (j : ℕ). Waits s above start j [] n o) (got_next e) W)
    args_waits (k ∷ ks) {q} {m} {n} xs f W e =
        let (a, j, r, g) = thens (arg_at s above (Q s) k n q) (λ a next. and_then (args_at s above (Q s) ks (after k a n) next) (λ xs last. got (a, xs) last)) e in
        let (ys, l, r', g') = thens (args_at s above (Q s) ks (after k a n) j) (λ xs last. got (a, xs) last) g in
        let u = arg_waits a f W r in
        let (n', U) = args_waits ks ys u.1 u.0 r' in
        (n', subst (λ (j : ℕ). Waits s above start j [] n' o) (got_next g') U)

    -- what follows the word, and the closing bracket; seven: the ground where there is no room
    pub body_settled : {A : Type 0} (F : Family A) (room : F.Code → Bool) (c : F.Code) {q : ℕ} {n : Begun} → Fit n → Waits s above start q (F.slots c) n o
        → ((m : ℕ) (n' : Begun) → Waits s above start m [] n' o → get_or s m 0 ≡ 41 → room c ≡ false → Ground s above start 7 m) → Settles s above start q (λ t. body_at t above F (Q t) room c n q)
    unfolding body_at close_at
    body_settled F room c {q} {n} f W seven = settled_then (args_settled (F.slots c) f W)
        (λ xs m e.
        let (n', U) = args_waits (F.slots c) xs f W e in
        settled-byte m 41 (omega arith)
        (λ b. settled-cond (room c) (λ _. settled-lower (omega arith) (settled_got (F.build c xs) (m + 1))) (λ r. settled_refused m (seven m n' U b r) (stop-past s m)))
        (λ b. settled_refused m (no_close U b) (stop-past s m)))

  -- ---- a bracket of a family at p
  module _ {A : Type 0} (F : Family A) (Q : List ℕ → Readers) (deep full : Bool) (room : F.Code → Bool) (n : Begun) (bare : List ℕ → Read A) (p : ℕ)
      (two : (w : List ℕ) → Opening s above start p w → anyb (eql w) (map F.word F.codes) ≡ false → Ground s above start 2 p)
      (four : deep ≡ true → (c : F.Code) → Opening s above start p (F.word c) → Ground s above start 4 p)
      (seven : deep ≡ false → full ≡ true → (c : F.Code) → Opening s above start p (F.word c) → Ground s above start 7 p)
      (body : deep ≡ false → full ≡ false → (c : F.Code) → Opening s above start p (F.word c) → Settles s above start (item_end s (p + 1)) (λ t. body_at t above F (Q t) room c n (item_end s (p + 1)))) where
    head-settled : get_or s p 0 ≡ 40 → (f : Option ℕ) → index_of (map F.word F.codes) (item_at s (p + 1)) ≡ f → Settles s above start (item_end s (p + 1)) (λ t. headed t above F (Q t) deep full room n f (item_end s (p + 1)))
    head-settled b None e = settled_refused p (two (item_at s (p + 1)) (b, refl) (found_none (map F.word F.codes) (item_at s (p + 1)) e)) (stop_open s p b)
    head-settled b (Some k) e =
        let w = word_of F (item_at s (p + 1)) k e in
        settled-cond deep (λ i. settled_refused p (four i (get_or F.codes k F.other) (b, w)) (stop_open s p b))
        (λ i. settled-cond full (λ j. settled_refused p (seven i j (get_or F.codes k F.other) (b, w)) (stop_open s p b))
        (λ j. body i j (get_or F.codes k F.other) (b, w)))

    -- an opening bracket ends the item before it
    item-before : get_or s p 0 ≡ 40 → item_end s p ≤ item_end s (p + 1)
    unfolding edge
    item-before b =
        let e = edge_of s p 40 b refl in
        omega (arith, item_end-edge s p (edge-inside s p e) e, item_end-from s (p + 1))

    pub bracket-settled : ((get_or s p 0 ≡ 40 → ⊥) → Settles s above start (item_end s p) bare) → Settles s above start (item_end s p) (λ t. bracket_at t above F (Q t) deep full room (bare t) n p)
    unfolding bracket_at
    bracket-settled B = settled-byte p 40 (item_end-from s p)
        (λ b. settled-lower (item-before b) (settled-item (p + 1) (λ t w e. headed t above F (Q t) deep full room n (index_of (map F.word F.codes) w) e) (head-settled b (index_of (map F.word F.codes) (item_at s (p + 1))) refl)))
        B

  -- ---- PATH, FORM, TARGET
  -- an opening bracket and its word; with the space before it
  opened : (p : ℕ) (w : List ℕ) → Opening s above start p w → Span s p (item_end s (p + 1)) (40 ∷ w)
  opened p w b =
      let sp = span_byte s p 39 b.0 in
      span_join sp (subst (λ (w : List ℕ). Span s (p + 1) (item_end s (p + 1)) w) b.1 (item_span s (p + 1) sp.within))

  opened_within : (q : ℕ) (w : List ℕ) → Bracket s above start q w → Span s q (item_end s (q + 1 + 1)) (32 ∷ (40 ∷ w))
  opened_within q w b = span_join (span_byte s q 31 b.0) (opened (q + 1) w b.1)

  module _ (N : Pools above) where
    -- with one bracket more than Q; deep: 32 are open
    nested-step : (Q : List ℕ → Readers) (d o : ℕ) (deep : Bool) → (deep ≡ true → o ≡ max_depth) → (deep ≡ false → o < max_depth) → (deep ≡ false → Exacts s above (Q s) d) → (deep ≡ false → Nested Q (suc o)) → Nested (λ t. deeper t above deep (Q t)) o
    unfolding deeper link_at
    nested-step Q d o deep most fewer X S =
        record {
          path_s = λ {q} {k} {ks} {n} P i f W sp. bracket-settled path_family Q deep (leb max_paths n.paths) (λ c. true) (path_begun n) (λ t. link_at t above (leb max_paths n.paths) (q + 1)) (q + 1)
              (λ w b e. no_word W w (sp, b) (ap (anyb (eql w)) (path_words_lem P) ∙ e))
              (λ i c b. nesting W (most i) (path_bracket P c) (sp, b))
              (λ i j c b. paths-full W P (is-bracket (fewer i) (path_bracket P c) (sp, b)) (leb-true max_paths n.paths j))
              (λ i j c b. body_settled N Q d (suc o) (X i) (S i) path_family (λ c. true) c (record { forms = f.forms; paths = let l = leb-false max_paths n.paths j in omega arith; items = f.items }) (inner W (path_bracket P c) (opened_within q (path_family.word c) (sp, b))) (λ m n' _ _ r. absurd (never_both refl r)))
              (λ e. link-settled W sp links (a-link P) i (λ b. absurd (e b)) P refl (leb max_paths n.paths) (leb-true max_paths n.paths));
          form_s = λ {q} {ks} {n} f W sp. bracket-settled form_family Q deep (leb max_forms n.forms) (λ c. true) (form_begun n) (λ t. true_at t above (leb max_forms n.forms) (q + 1)) (q + 1)
              (λ w b e. no_word W w (sp, b) e)
              (λ i c b. nesting W (most i) (form_bracket c) (sp, b))
              (λ i j c b. forms-full W (is-bracket (fewer i) (form_bracket c) (sp, b)) (leb-true max_forms n.forms j))
              (λ i j c b. body_settled N Q d (suc o) (X i) (S i) form_family (λ c. true) c (record { forms = let l = leb-false max_forms n.forms j in omega arith; paths = f.paths; items = f.items }) (inner W (form_bracket c) (opened_within q (form_family.word c) (sp, b))) (λ m n' _ _ r. absurd (never_both refl r)))
              (λ e. true_settled W sp e (leb max_forms n.forms) (leb-true max_forms n.forms));
          target_s = λ {q} {ks} {n} f W sp. bracket-settled target_family Q deep false (λ c. true) n (λ t. refused 2) (q + 1)
              (λ w b e. no_word W w (sp, b) e)
              (λ i c b. nesting W (most i) (target-bracket c) (sp, b))
              (λ i j c b. absurd (never_both j refl))
              (λ i j c b. body_settled N Q d (suc o) (X i) (S i) target_family (λ c. true) c f (inner W (target-bracket c) (opened_within q (target_family.word c) (sp, b))) (λ m n' _ _ r. absurd (never_both refl r)))
              (λ e. settled_refused (q + 1) (misfit W (item_at s (q + 1)) (sp, refl) (λ f. f) (λ b. absurd (e b))) (stop-item s (q + 1)));
        }

    readers-settled : (left o : ℕ) → o + left ≡ max_depth → Nested (λ t. readers_at t above left) o
    unfolding readers_at
    readers-settled zero o e = nested-step (λ t. no_readers t above) 0 o true (λ _. omega arith) (λ i. absurd (never_both refl i)) (λ i. absurd (never_both refl i)) (λ i. absurd (never_both refl i))
    readers-settled (suc left) o e = nested-step (λ t. readers_at t above left) left o false (λ i. absurd (never_both i refl)) (λ _. omega arith) (λ _. readers_exact s above N left) (λ _. readers-settled left (suc o) (omega arith))

    -- ---- a line
    module _ (f : Fit (begun_above above)) where
      line-full : (c : LineCode) → Opening s above start start (line_family.word c) → (m : ℕ) (n : Begun) → Waits s above start m [] n 1 → get_or s m 0 ≡ 41 → line_room s above c ≡ false → Ground s above start 7 m
      unfolding line_room
      line-full link_l b m n W e r = absurd (never_both refl r)
      line-full type_l b m n W e r = absurd (never_both refl r)
      line-full lang_l b m n W e r = absurd (never_both refl r)
      line-full thing_l b m n W e r = absurd (never_both refl r)
      line-full blank_l b m n W e r = absurd (never_both refl r)
      line-full number_l b m n W e r = absurd (never_both refl r)
      line-full text_l b m n W e r = absurd (never_both refl r)
      line-full words_l b m n W e r = absurd (never_both refl r)
      line-full fact_l b m n W e r = facts_full W b e (ltb-false (length (collect new_triples above)) max_facts r)
      line-full shape_l b m n W e r = absurd (never_both refl r)
      line-full rule_l b m n W e r = rules-full W b e (ltb-false (length (rules above)) 32 r)

      line-bracket : Settles s above start (item_end s start) (λ t. bracket_at t above line_family (readers_at t above max_within) false false (line_room s above) (refused 2) (begun_above above) start)
      line-bracket = bracket-settled line_family (λ t. readers_at t above max_within) false false (line_room s above) (begun_above above) (λ t. refused 2) start
          (λ w b e. no-line-word w b e)
          (λ i c b. absurd (never_both i refl))
          (λ i j c b. absurd (never_both j refl))
          (λ i j c b. body_settled N (λ t. readers_at t above max_within) max_within 1 (readers_exact s above N max_within) (readers-settled max_within 1 refl) line_family (line_room s above) c f (line c (opened start (line_family.word c) b)) (line-full c b))
          (λ e. settled_refused start (no_line e) (stop-item s start))

      pub line-settled : start ≤ length s → Settles s above start start (λ t. line_at t above start)
      unfolding line_at line_room begun_above
      line-settled h = settled-lower (item_end-from s start)
          (settled_then line-bracket
          (λ l m e.
          let u = bracket-line s above N f start h l m e in
          settled-byte m 10 (omega arith) (λ _. settled-lower (omega arith) (settled_got l (m + 1))) (λ b. settled_refused m (no_end l u.0 u.1 b) (stop-past s m))))
