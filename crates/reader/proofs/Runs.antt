-- The loop over lines: what the tables and the counts are after the lines read so far.
use Prim.Native.Nat.{ℕ, zero, suc, ◌+◌, ◌-◌, ◌≤◌, ◌<◌}
use mathlib.Core.Path.{◌≡◌, refl, sym, ap, ◌∙◌, subst}
use mathlib.Core.List.{List, [], ◌∷◌, ◌++◌}
use mathlib.Core.Bool.{Bool, cond}
use native.Mathlib.Nat.{sub-zero}
use native.Mathlib.Omega.{arith}
use lib.Dec.{ltb, leb}
use lib.ListN.{length, drop, get_or, length-append}
use lib.Seq.{drop_at}
use lib.IntN.{ℤ, pos}
use borrow.Author.Tests.{ltb-true, ltb-false, lt-ltb, le-ltb, lt-leb, le-leb}
use Rattle.base.specs.Columns.{flat}
use Rattle.base.proofs.Bools.{bool_cases, and_left}
use Rattle.base.proofs.Columns.{length-flat}
use Rattle.text.specs.Items.{is_name}
use Rattle.model.specs.Answers.{Answer, value, refusal}
use Rattle.model.specs.Books.{Line, Book, Pool, nodes, links, types, langs, shapes, built_in, new_names, new_triples, new_shapes, new_rules, collect, names, rules}
use Rattle.model.specs.Sizes.{sum_over, form_entries, shape_paths, list_items, forms_in, paths_in, items_in, counts_in}
use Rattle.model.proofs.Lines.{collect_snoc, names_snoc, sum_append}
use Rattle.tables.specs.Layout.{name_count, cell_count, value_count, node_kinds}
use Rattle.encoding.specs.Encode.{name_columns, cell_columns, value_columns, encode_names}
use Rattle.grammar.specs.Writing.{write_line}
use Rattle.grammar.specs.Valid.{well_named}
use Rattle.grammar.specs.Reading.{Read, got, refused, line_at, follow, lines_from}
use Rattle.grammar.proofs.Lines.{line_sound}
use Rattle.grammar.proofs.Books.{Sane, sane_start, sane_more, pools_of, fit_of, longer}
use Rattle.tables.specs.Sizes.{cleared}
use Rattle.stores.specs.Lines.{line_names, line_cells, line_values, lines_names, lines_cells, lines_values}
use Rattle.stores.proofs.Prefixes.{Prefix, prefix_start, prefix_more, prefix_valid}
use Rattle.stores.proofs.Entries.{cell_table, value_table}
use Rattle.stores.proofs.Lines.{so_far, line-cells, line-values}
use Rattle.stores.proofs.Names.{line-names}
use Rattle.stores.proofs.Lookups.{find_name, resource_held}
use Rattle.stores.proofs.Books.{lines-names, lines-cells, lines-values, cells-cleared, values-cleared}
use Rattle.model.specs.declared.Counts.{Counts}
use Rattle.itemreader.specs.Held.{count_of, Limits, Held, Kinds, Indexed, name_index_count}
use Rattle.model.specs.declared.Counts.{Counts}
use Rattle.std.specs.Prelude.{Result, Ok, Err}
use Rattle.model.specs.Refusals.{fault_of, refusal_at}
use Rattle.model.specs.declared.Fault.{Fault}
use Rattle.model.specs.declared.Refusal.{Refusal}
use Rattle.linereader.specs.Storing.{counted, CountsFit, Done}
use Rattle.reader.specs.Running.{Started, built_in_counts, Ran}
use Rattle.reader.specs.Indexing.{all_joined}
use Rattle.reader.proofs.Indexing.{line-indexed}
use Rattle.reader.proofs.Outcomes.{counts_limits, counts-fit}

le_one : (k : ℕ) → leb k 1 ≡ ltb k 2
le_one k =
    bool_cases (λ t. ltb k 2 ≡ t → leb k 1 ≡ t) (ltb k 2)
    (λ _ e. le-leb k 1 (let h = ltb-true k 2 e in omega arith))
    (λ _ e. lt-leb k 1 (let h = ltb-false k 2 e in omega arith)) refl

-- ---- the reading, line by line
module _ (s : List ℕ) (at line : ℕ) (a : Book) where
  pub lines_step : line ≤ at → at < length s → lines_from s (length s - line) at line a ≡ follow (line + 1) (line_at s a at) (λ l next. lines_from s (length s - (line + 1)) next (line + 1) (a ++ (l ∷ [])))
  unfolding lines_from
  lines_step few h =
      let f : length s - line ≡ suc (length s - (line + 1)) = omega arith in
      ap (λ (n : ℕ). lines_from s n at line a) f
      ∙ ap (λ (t : Bool). cond t (follow (line + 1) (line_at s a at) (λ l next. lines_from s (length s - (line + 1)) next (line + 1) (a ++ (l ∷ [])))) (value a)) (lt-ltb at (length s) h)

  pub lines-over : (fuel : ℕ) → length s ≤ at → lines_from s fuel at line a ≡ value a
  unfolding lines_from
  lines-over zero h = refl
  lines-over (suc fuel) h = ap (λ (t : Bool). cond t (follow (line + 1) (line_at s a at) (λ l next. lines_from s fuel next (line + 1) (a ++ (l ∷ [])))) (value a)) (le-ltb at (length s) h)

-- ---- the counts with one line more
counts-more : (a : Book) (l : Line) → counted l (counts_in a) ≡ counts_in (a ++ (l ∷ []))
unfolding rules forms_in paths_in items_in
counts-more a l =
    let pool : (p : Pool) → length (names p a) + length (new_names p l) ≡ length (names p (a ++ (l ∷ []))) = λ p. sym (ap length (names_snoc p a l) ∙ length-append (names p a) (new_names p l)) in
    let n = pool nodes in
    let k = pool links in
    let t = pool types in
    let g = pool langs in
    let h = pool shapes in
    let f = sym (ap length (collect_snoc new_triples a l) ∙ length-append (collect new_triples a) (new_triples l)) in
    let r = sym (ap length (collect_snoc new_rules a l) ∙ length-append (collect new_rules a) (new_rules l)) in
    let p = sym (ap (sum_over shape_paths) (collect_snoc new_shapes a l) ∙ sum_append shape_paths (collect new_shapes a) (new_shapes l)) in
    let m = sym (ap (sum_over form_entries) (collect_snoc new_shapes a l) ∙ sum_append form_entries (collect new_shapes a) (new_shapes l)) in
    let i = sym (ap (sum_over list_items) (collect_snoc new_shapes a l) ∙ sum_append list_items (collect new_shapes a) (new_shapes l)) in
    cc

-- ---- what an answer for a line says
module _ (a : Book) (c : Counts) (r : Result (Counts × ℕ) Fault) (ns ns' cs cs' : List ℕ) (vs vs' : List ℤ) where
  -- a line that was read and stored
  pub record Stored (x : Read Line) (next : ℕ) (m : Counts) : Type 0 where
    pub line : Line
    pub read : x ≡ got line next
    pub counts : m ≡ counted line c
    pub names : ns' ≡ line_names a line ns
    pub cells : cs' ≡ line_cells a line cs
    pub values : vs' ≡ line_values a line vs

  pub done_next : (x : Read Line) (next : ℕ) (m : Counts) → Done a c x r ns ns' cs cs' vs vs' → r ≡ Ok (m, next) → Stored x next m
  done_next (got l nx) next m d e =
      let q = d.0 in
      let p : ◌≡◌ {A = Counts × ℕ} (counted l c, nx) (m, next) = cc in
      record { line = l; read = ap (λ (z : Counts × ℕ). got l z.1) p; counts = sym (ap (λ (z : Counts × ℕ). z.0) p); names = d.1; cells = d.2; values = d.3 }
  done_next (refused k) next m d e = let q = d.0 in let z : ◌≡◌ {A = ℕ} 0 1 = cc in absurd (omega arith)

  -- a line that was refused
  pub record Left (x : Read Line) (f : Fault) : Type 0 where
    pub number : ℕ
    pub read : x ≡ refused number
    pub fault : f ≡ fault_of number
    pub names : drop name_count ns' ≡ drop name_count ns
    pub cells : drop cell_count cs' ≡ drop cell_count cs
    pub values : drop value_count vs' ≡ drop value_count vs

  pub done_left : (x : Read Line) (f : Fault) → Done a c x r ns ns' cs cs' vs vs' → r ≡ Err f → Left x f
  done_left (got l nx) f d e = let q = d.0 in let z : ◌≡◌ {A = ℕ} 0 1 = cc in absurd (omega arith)
  done_left (refused j) f d e = let q = d.0 in record { number = j; read = refl; fault = cc; names = d.1; cells = d.2; values = d.3 }

-- ---- the loop
-- s: the text; then each table at the start
module _ (s ns₀ cs₀ : List ℕ) (vs₀ : List ℤ) where
  -- the tables and counts now, the position and the number of lines above it: the tables hold a book, the lines above, and
  -- the reading goes on from there
  pub record Runs (ns cs : List ℕ) (vs : List ℤ) (n : Counts) (at line : ℕ) : Type 0 where
    pub above : Book
    pub sane : Sane above
    pub counts : n ≡ counts_in above
    pub names-held : ns ≡ encode_names above ++ drop name_count ns₀
    pub cells-held : cs ≡ cell_table (so_far above) (drop cell_count cs₀)
    pub values-held : vs ≡ value_table (so_far above) (drop value_count vs₀)
    pub within : at ≤ length s
    pub few : line ≤ at
    pub rest : lines_from s (length s) 0 0 [] ≡ lines_from s (length s - line) at line above

  pub runs_start : Started ns₀ cs₀ vs₀ → Runs ns₀ cs₀ vs₀ built_in_counts 0 0
  unfolding names built_in collect rules forms_in paths_in items_in sum_over cleared
  runs_start S =
      record {
        above = [];
        sane = sane_start;
        counts = refl;
        names-held = S.names-start;
        cells-held = S.cells-start ∙ cells-cleared (drop cell_count cs₀);
        values-held = S.values-start ∙ values-cleared (drop value_count vs₀);
        within = omega arith;
        few = omega arith;
        rest = ap (λ (n : ℕ). lines_from s n 0 0 []) (sym (sub-zero (length s)));
      }

  module _ {ns cs : List ℕ} {vs : List ℤ} {n : Counts} {at line : ℕ} (R : Runs ns cs vs n at line) where
    prefix : Prefix R.above
    prefix = prefix_valid R.above R.sane.valid-above

    in_pool : (p : Pool) → count_of n p ≡ length (names p R.above)
    in_pool p = ap (λ (m : Counts). count_of m p) R.counts ∙ go p
      where
        go : (p : Pool) → count_of (counts_in R.above) p ≡ length (names p R.above)
        go nodes = refl
        go links = refl
        go types = refl
        go langs = refl
        go shapes = refl

    pub runs_held : Held ns n R.above
    unfolding well_named
    runs_held =
        record {
          finds = λ p w e. rw (R.names-held, in_pool p) (find_name R.above prefix (drop name_count ns₀) p w (and_left (is_name w) _ e));
          names_counted = in_pool;
          facts_counted = ap (λ (m : Counts). m.facts) R.counts;
          rules_counted = ap (λ (m : Counts). m.rules) R.counts;
          forms_counted = ap (λ (m : Counts). m.forms) R.counts;
          paths_counted = ap (λ (m : Counts). m.paths) R.counts;
          items_counted = ap (λ (m : Counts). m.items) R.counts;
        }

    pub runs_kinds : Kinds cs R.above
    runs_kinds v h = rw R.cells-held (le_one (get_or (cell_table (so_far R.above) (drop cell_count cs₀)) (node_kinds + v) 0) ∙ resource_held R.above prefix (drop cell_count cs₀) v h)

    pub runs_limits : Limits n
    runs_limits = subst Limits (sym R.counts) (counts_limits R.above prefix.admissible-above)

    pub runs_fits : CountsFit n
    runs_fits = subst CountsFit (sym R.counts) (counts-fit R.above prefix.admissible-above)

    -- one line more
    module _ (r : Result (Counts × ℕ) Fault) (ns' cs' : List ℕ) (vs' : List ℤ) (h : at < length s) (d : Done R.above n (line_at s R.above at) r ns ns' cs cs' vs vs') where
      pub runs_more : (next : ℕ) (m : Counts) → r ≡ Ok (m, next) → (at < next) × Runs ns' cs' vs' m next (line + 1) × ((index : List ℕ) → name_index_count ≤ length index → Indexed ns n index → Indexed ns' m (all_joined ns' n m index))
      runs_more next m e =
          let a = R.above in
          let S = R.sane in
          let w = done_next a n r ns ns' cs cs' vs vs' (line_at s a at) next m d e in
          let l = w.line in
          let u = line_sound s a (pools_of a S) (fit_of a S) at R.within l next w.read in
          let ok = u.1 in
          let past = longer s at next (write_line a l) u.0 in
          let P = prefix_more a l prefix ok in
          let c = w.counts ∙ ap (counted l) R.counts ∙ counts-more a l in
          let e = w.names ∙ ap (line_names a l) R.names-held ∙ line-names a prefix (drop name_count ns₀) l ok in
          let few = R.few in (
            past,
            record {
              above = a ++ (l ∷ []);
              sane = sane_more a l S ok;
              counts = c;
              names-held = e;
              cells-held = w.cells ∙ ap (line_cells a l) R.cells-held ∙ line-cells a l ok (drop cell_count cs₀);
              values-held = w.values ∙ ap (line_values a l) R.values-held ∙ line-values a l ok (drop value_count vs₀);
              within = u.0.within;
              few = omega arith;
              rest = R.rest ∙ lines_step s at line a R.few h ∙ ap (λ (x : Read Line). follow (line + 1) x (λ l next. lines_from s (length s - (line + 1)) next (line + 1) (a ++ (l ∷ [])))) w.read;
            },
            λ index long I. line-indexed a l prefix P (drop name_count ns₀) R.names-held e in_pool w.counts (subst Limits (sym c) (counts_limits (a ++ (l ∷ [])) P.admissible-above)) long I,
          )

      names-past : drop name_count ns ≡ drop name_count ns₀
      unfolding encode_names
      names-past = ap (drop name_count) R.names-held ∙ drop_at (encode_names R.above) (drop name_count ns₀) name_count (length-flat 0 (name_columns R.above))

      cells-past : drop cell_count cs ≡ drop cell_count cs₀
      unfolding cell_table
      cells-past = ap (drop cell_count) R.cells-held ∙ drop_at (flat 0 (cell_columns (so_far R.above))) (drop cell_count cs₀) cell_count (length-flat 0 (cell_columns (so_far R.above)))

      values-past : drop value_count vs ≡ drop value_count vs₀
      unfolding value_table
      values-past = ap (drop value_count) R.values-held ∙ drop_at (flat (pos 0) (value_columns (so_far R.above))) (drop value_count vs₀) value_count (length-flat (pos 0) (value_columns (so_far R.above)))

      -- a refused line
      pub runs_stop : (f : Fault) → r ≡ Err f → {t : Refusal} → t ≡ refusal_at f (line + 1) → Ran (lines_from s (length s) 0 0 []) (Err t) ns₀ ns' cs₀ cs' vs₀ vs'
      runs_stop f e {t} q =
          let a = R.above in
          let w = done_left a n r ns ns' cs cs' vs vs' (line_at s a at) f d e in
          let o : lines_from s (length s) 0 0 [] ≡ refusal w.number (line + 1) = R.rest ∙ lines_step s at line a R.few h ∙ ap (λ (x : Read Line). follow (line + 1) x (λ l next. lines_from s (length s - (line + 1)) next (line + 1) (a ++ (l ∷ [])))) w.read in
          subst (λ (o : Answer Book). Ran o (Err t) ns₀ ns' cs₀ cs' vs₀ vs') (sym o) (ap Err (q ∙ ap (λ (g : Fault). refusal_at g (line + 1)) w.fault), w.names ∙ names-past, w.cells ∙ cells-past, w.values ∙ values-past)

    -- after the last line
    pub runs_end : Started ns₀ cs₀ vs₀ → length s ≤ at → Ran (lines_from s (length s) 0 0 []) (Ok n) ns₀ ns cs₀ cs vs₀ vs
    unfolding cleared
    runs_end S h =
        let a = R.above in
        let v = R.sane.valid-above in
        let o : lines_from s (length s) 0 0 [] ≡ value a = R.rest ∙ lines-over s at line a (length s - line) h in
        subst (λ (o : Answer Book). Ran o (Ok n) ns₀ ns cs₀ cs vs₀ vs) (sym o) (
          ap Ok R.counts,
          R.names-held ∙ sym (ap (lines_names [] a) S.names-start ∙ lines-names a [] (drop name_count ns₀) prefix_start v),
          R.cells-held ∙ sym (ap (lines_cells [] a) (S.cells-start ∙ cells-cleared (drop cell_count cs₀)) ∙ lines-cells a [] (drop cell_count cs₀) prefix_start v),
          R.values-held ∙ sym (ap (lines_values [] a) (S.values-start ∙ values-cleared (drop value_count vs₀)) ∙ lines-values a [] (drop value_count vs₀) prefix_start v),
        )
