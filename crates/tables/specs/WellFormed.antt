-- Refusal 9: the grounds of document 01, and no others. A number not below its pool's count, an unknown code, an entry
-- that uses one not before it (also through `shape`), a count, LO or HI over its limit. What lies past a count is not looked at.
use Rattle.std.specs.Prelude.{ℕ, ◌+◌, List, [], ◌∷◌, Bool, true, false, ◌&&◌, ◌||◌, eqb, ltb, leb, get_or}
use Rattle.base.specs.Bounded.{every}
use Rattle.model.specs.Limits.{max_nodes, max_links, max_types, max_langs, max_shapes, max_rules, max_facts, max_forms, max_paths, max_items, max_count}
use Rattle.tables.specs.Codes as codes
use Rattle.tables.specs.Layout.{no_number, node_count, link_count, type_count, lang_count, shape_count, fact_count, path_count, form_count, item_count, rule_count, kind_at, type_at, lang_at, subject_at, predicate_at, object_at, item_at, root_at, rule_shape_at, rule_target_at, rule_operand_at}
use Rattle.tables.specs.Entries.{PathEntry, link, inv, seq, alt, star, plus, Entry}
use Rattle.tables.specs.Decode.{path_entry_at, entry_at}

module _ (cs : List ℕ) where
  unfoldable pub counts_ok : Bool
  counts_ok =
      leb (node_count cs) max_nodes
      && (leb (link_count cs) max_links
      && (leb (type_count cs) max_types
      && (leb (lang_count cs) max_langs
      && (leb (shape_count cs) max_shapes
      && (leb (fact_count cs) max_facts
      && (leb (path_count cs) max_paths
      && (leb (form_count cs) max_forms
      && (leb (item_count cs) max_items && leb (rule_count cs) max_rules))))))))

  -- by kind: thing, blank, number, text, words; no other
  unfoldable pub node_ok : ℕ → Bool
  node_ok v = get_or (true ∷ true ∷ ltb (type_at cs v) (type_count cs) ∷ ltb (type_at cs v) (type_count cs) ∷ ltb (lang_at cs v) (lang_count cs) ∷ []) (kind_at cs v) false

  unfoldable pub fact_ok : ℕ → Bool
  fact_ok i = ltb (subject_at cs i) (node_count cs) && (ltb (predicate_at cs i) (link_count cs) && ltb (object_at cs i) (node_count cs))

  -- path entry e
  unfoldable pub path_entry_ok : ℕ → PathEntry → Bool
  path_entry_ok e (link p) = ltb p (link_count cs)
  path_entry_ok e (inv a) = ltb a e
  path_entry_ok e (seq a b) = ltb a e && ltb b e
  path_entry_ok e (alt a b) = ltb a e && ltb b e
  path_entry_ok e (star a) = ltb a e
  path_entry_ok e (plus a) = ltb a e
  path_entry_ok e PathEntry.bad = false

  -- item i is there, and is below a bound
  abbrev pub item_ok : ℕ → ℕ → Bool
  item_ok bound i = ltb i (item_count cs) && ltb (item_at cs i) bound

  -- n items from number i on; an empty list names no item, wherever it begins
  unfoldable pub items_ok : ℕ → ℕ → ℕ → Bool
  items_ok bound i n = every (λ k. item_ok bound (i + k)) n

  unfoldable pub upper_ok : ℕ → Bool
  upper_ok hi = leb hi max_count || eqb hi no_number

  unfoldable pub end_number_ok : ℕ → Bool
  end_number_ok p = ltb p (path_count cs) || eqb p no_number

  -- form entry e
  unfoldable pub entry_ok : ℕ → Entry → Bool
  entry_ok e Entry.top = true
  entry_ok e (Entry.is c) = ltb c (node_count cs)
  entry_ok e (Entry.shape s) = ltb s (shape_count cs) && ltb (root_at cs s) e
  entry_ok e (Entry.conj a b) = ltb a e && ltb b e
  entry_ok e (Entry.disj a b) = ltb a e && ltb b e
  entry_ok e (Entry.neg a) = ltb a e
  entry_ok e (Entry.kind k) = ltb k codes.kind_unknown
  entry_ok e (Entry.datatype t) = ltb t (type_count cs)
  entry_ok e (Entry.lang i n) = items_ok (lang_count cs) i n
  entry_ok e (Entry.from x) = true
  entry_ok e (Entry.above x) = true
  entry_ok e (Entry.to x) = true
  entry_ok e (Entry.under x) = true
  entry_ok e (Entry.count p a lo hi) = (ltb p (path_count cs) && ltb a e) && (leb lo max_count && upper_ok hi)
  entry_ok e (Entry.all p a) = ltb p (path_count cs) && ltb a e
  entry_ok e (Entry.equal f p) = end_number_ok f && ltb p (link_count cs)
  entry_ok e (Entry.apart f p) = end_number_ok f && ltb p (link_count cs)
  entry_ok e (Entry.closed i n) = items_ok (link_count cs) i n
  entry_ok e (Entry.less p l) = ltb p (path_count cs) && ltb l (link_count cs)
  entry_ok e (Entry.lesseq p l) = ltb p (path_count cs) && ltb l (link_count cs)
  entry_ok e (Entry.onelang p) = ltb p (path_count cs)
  entry_ok e Entry.bad = false

  -- by target code: node, subjects, objects, class; no other
  unfoldable pub rule_ok : ℕ → Bool
  rule_ok r =
      ltb (rule_shape_at cs r) (shape_count cs)
      && get_or (ltb (rule_operand_at cs r) (node_count cs) ∷ ltb (rule_operand_at cs r) (link_count cs) ∷ ltb (rule_operand_at cs r) (link_count cs) ∷ ltb (rule_operand_at cs r) (node_count cs) ∷ []) (rule_target_at cs r) false

-- the values have no ground of their own: V may be any number, so the entries are looked at with none
unfoldable pub well_formed : List ℕ → Bool
well_formed cs =
    counts_ok cs
    && (every (node_ok cs) (node_count cs)
    && (every (fact_ok cs) (fact_count cs)
    && (every (λ e. path_entry_ok cs e (path_entry_at cs e)) (path_count cs)
    && (every (λ e. entry_ok cs e (entry_at cs [] e)) (form_count cs)
    && (every (λ s. ltb (root_at cs s) (form_count cs)) (shape_count cs) && every (rule_ok cs) (rule_count cs))))))
