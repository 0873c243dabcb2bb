-- What well_formed_lem tables give: every count within its limit, every number below its pool's count, every entry before its user.
use Prim.Native.Nat.{ℕ, zero, suc, ◌≤◌, ◌<◌}
use mathlib.Core.List.{List, [], ◌∷◌}
use mathlib.Core.Bool.{Bool, true, ◌&&◌}
use mathlib.Core.Path.{◌≡◌, refl, sym, ◌∙◌}
use lib.Dec.{ltb, leb}
use lib.IntN.{ℤ}
use lib.ListN.{get_or, get_or-map}
use borrow.Author.Tests.{ltb-true, leb-true}
use Rattle.base.specs.Bounded.{every}
use Rattle.base.proofs.Bools.{and_left, and_right}
use Rattle.base.proofs.Bounded.{every-at}
use Rattle.model.specs.Limits.{max_nodes, max_links, max_types, max_langs, max_shapes, max_rules, max_facts, max_forms, max_paths, max_items}
use Rattle.tables.specs.Layout.{node_count, link_count, type_count, lang_count, shape_count, fact_count, path_count, form_count, item_count, rule_count, subject_at, predicate_at, object_at, root_at, form_code_at, form_first_at, form_second_at, form_third_at, form_fourth_at, limit_at}
use Rattle.tables.specs.Entries.{Entry, entry_of}
use Rattle.tables.specs.Decode.{path_entry_at, entry_at}
use Rattle.tables.specs.WellFormed.{counts_ok, node_ok, fact_ok, path_entry_ok, entry_ok, rule_ok, well_formed}

-- V is no ground: an entry is right or not whatever its V
pub entry-any : (cs : List ℕ) (e code a b c d : ℕ) (x y : ℤ) → entry_ok cs e (entry_of code a b c d x) ≡ entry_ok cs e (entry_of code a b c d y)
unfolding entry_ok entry_of
entry-any cs e code a b c d x y = sym (get_or-map (entry_ok cs e) (list x) code Entry.bad) ∙ get_or-map (entry_ok cs e) (list y) code Entry.bad
  where
    list : ℤ → List Entry
    list v = Entry.top ∷ Entry.is a ∷ Entry.shape a ∷ Entry.conj a b ∷ Entry.disj a b ∷ Entry.neg a ∷ Entry.kind a ∷ Entry.datatype a ∷ Entry.lang a b ∷ Entry.from v ∷ Entry.above v ∷ Entry.to v ∷ Entry.under v ∷ Entry.count a b c d ∷ Entry.all a b ∷ Entry.equal a b ∷ Entry.apart a b ∷ Entry.closed a b ∷ Entry.less a b ∷ Entry.lesseq a b ∷ Entry.onelang a ∷ []

pub entry-values : (cs : List ℕ) (vs ws : List ℤ) (e : ℕ) → entry_ok cs e (entry_at cs vs e) ≡ entry_ok cs e (entry_at cs ws e)
unfolding entry_at
entry-values cs vs ws e = entry-any cs e (form_code_at cs e) (form_first_at cs e) (form_second_at cs e) (form_third_at cs e) (form_fourth_at cs e) (limit_at vs e) (limit_at ws e)

pub record Sound (cs : List ℕ) : Type 0 where
  pub nodes : node_count cs ≤ max_nodes
  pub links : link_count cs ≤ max_links
  pub types : type_count cs ≤ max_types
  pub langs : lang_count cs ≤ max_langs
  pub shapes : shape_count cs ≤ max_shapes
  pub facts : fact_count cs ≤ max_facts
  pub paths : path_count cs ≤ max_paths
  pub forms : form_count cs ≤ max_forms
  pub items : item_count cs ≤ max_items
  pub rules : rule_count cs ≤ max_rules
  pub node : (v : ℕ) → v < node_count cs → node_ok cs v ≡ true
  pub subject : (i : ℕ) → i < fact_count cs → subject_at cs i < node_count cs
  pub predicate : (i : ℕ) → i < fact_count cs → predicate_at cs i < link_count cs
  pub object : (i : ℕ) → i < fact_count cs → object_at cs i < node_count cs
  pub path : (e : ℕ) → e < path_count cs → path_entry_ok cs e (path_entry_at cs e) ≡ true
  pub entry : (vs : List ℤ) (e : ℕ) → e < form_count cs → entry_ok cs e (entry_at cs vs e) ≡ true
  pub root : (s : ℕ) → s < shape_count cs → root_at cs s < form_count cs
  pub rule : (r : ℕ) → r < rule_count cs → rule_ok cs r ≡ true

-- tests that pass together, by their number
abbrev ands : List Bool → Bool
ands [] = true
ands (b ∷ []) = b
ands (b ∷ c ∷ bs) = b && ands (c ∷ bs)

ands_at : (bs : List Bool) → ands bs ≡ true → (k : ℕ) → get_or bs k true ≡ true
ands_at [] w k = refl
ands_at (b ∷ []) w zero = w
ands_at (b ∷ []) w (suc k) = refl
ands_at (b ∷ c ∷ bs) w zero = and_left b (ands (c ∷ bs)) w
ands_at (b ∷ c ∷ bs) w (suc k) = ands_at (c ∷ bs) (and_right b (ands (c ∷ bs)) w) k

-- the tests that the definitions put together
module _ (cs : List ℕ) where
  abbrev parts : List Bool
  parts =
      counts_ok cs ∷ every (node_ok cs) (node_count cs) ∷ every (fact_ok cs) (fact_count cs) ∷ every (λ e. path_entry_ok cs e (path_entry_at cs e)) (path_count cs)
      ∷ every (λ e. entry_ok cs e (entry_at cs [] e)) (form_count cs) ∷ every (λ s. ltb (root_at cs s) (form_count cs)) (shape_count cs) ∷ every (rule_ok cs) (rule_count cs) ∷ []

  abbrev limits : List Bool
  limits =
      leb (node_count cs) max_nodes ∷ leb (link_count cs) max_links ∷ leb (type_count cs) max_types ∷ leb (lang_count cs) max_langs ∷ leb (shape_count cs) max_shapes
      ∷ leb (fact_count cs) max_facts ∷ leb (path_count cs) max_paths ∷ leb (form_count cs) max_forms ∷ leb (item_count cs) max_items ∷ leb (rule_count cs) max_rules ∷ []

  abbrev fact_tests : ℕ → List Bool
  fact_tests i = ltb (subject_at cs i) (node_count cs) ∷ ltb (predicate_at cs i) (link_count cs) ∷ ltb (object_at cs i) (node_count cs) ∷ []

module _ (cs : List ℕ) (w : well_formed cs ≡ true) where
  part : (k : ℕ) → get_or (parts cs) k true ≡ true
  unfolding well_formed
  part = ands_at (parts cs) w

  limit : (k : ℕ) → get_or (limits cs) k true ≡ true
  unfolding counts_ok
  limit = ands_at (limits cs) (part 0)

  fact : (i : ℕ) → i < fact_count cs → (k : ℕ) → get_or (fact_tests cs i) k true ≡ true
  unfolding fact_ok
  fact i l = ands_at (fact_tests cs i) (every-at (fact_ok cs) (fact_count cs) (part 2) i l)

  pub sound : Sound cs
  sound = record {
    nodes = leb-true (node_count cs) max_nodes (limit 0);
    links = leb-true (link_count cs) max_links (limit 1);
    types = leb-true (type_count cs) max_types (limit 2);
    langs = leb-true (lang_count cs) max_langs (limit 3);
    shapes = leb-true (shape_count cs) max_shapes (limit 4);
    facts = leb-true (fact_count cs) max_facts (limit 5);
    paths = leb-true (path_count cs) max_paths (limit 6);
    forms = leb-true (form_count cs) max_forms (limit 7);
    items = leb-true (item_count cs) max_items (limit 8);
    rules = leb-true (rule_count cs) max_rules (limit 9);
    node = every-at (node_ok cs) (node_count cs) (part 1);
    subject = λ i l. ltb-true (subject_at cs i) (node_count cs) (fact i l 0);
    predicate = λ i l. ltb-true (predicate_at cs i) (link_count cs) (fact i l 1);
    object = λ i l. ltb-true (object_at cs i) (node_count cs) (fact i l 2);
    path = every-at (λ e. path_entry_ok cs e (path_entry_at cs e)) (path_count cs) (part 3);
    entry = λ vs e l. entry-values cs vs [] e ∙ every-at (λ e. entry_ok cs e (entry_at cs [] e)) (form_count cs) (part 4) e l;
    root = λ s l. ltb-true (root_at cs s) (form_count cs) (every-at (λ s. ltb (root_at cs s) (form_count cs)) (shape_count cs) (part 5) s l);
    rule = every-at (rule_ok cs) (rule_count cs) (part 6);
  }
