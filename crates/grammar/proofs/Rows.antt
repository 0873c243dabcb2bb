-- Each bracket of the grammar against its row in the definitions: how it is written, what is asked of it, its depth, its entries.
use Prim.Native.Nat.{ℕ, suc}
use mathlib.Core.Path.{◌≡◌, refl, sym, ap, ◌∙◌}
use mathlib.Core.List.{List, [], ◌∷◌, ◌++◌, map, append-nil}
use mathlib.Core.Bool.{Bool, true, ◌&&◌, and-true, and_assoc}
use native.Mathlib.Omega.{arith}
use Rattle.base.specs.Bytes.{eql}
use Rattle.base.specs.Lists.{allb}
use Rattle.text.specs.Items.{edge}
use Rattle.text.specs.Pool.{index_of, first_from}
use lib.Dec.{leb}
use Rattle.model.specs.Books.{Book, links, langs}
use Rattle.model.specs.Sizes.{path_entries, end_entries, form_entries, shape_paths, test_items, list_items}
use Rattle.model.specs.Valid.{defined, upper_ok, path_ok, end_ok, test_ok, shape_ok, target_ok}
use Rattle.model.specs.Limits.{max_count}
use Rattle.grammar.specs.Writing.{spaced, bracket, name_of, write_path, write_test, write_shape, write_target}
use Rattle.grammar.specs.Valid.{path_depth, shape_depth}
use Rattle.grammar.specs.Syntax.{Slot, path, form, target, Arg, Args, Family, PathCode, inv_c, seq_c, alt_c, star_c, plus_c, path_family, FormCode, is_c, shape_c, and_c, or_c, not_c, kind_c, datatype_c, lang_c, from_c, above_c, to_c, below_c, count_c, all_c, equal_c, apart_c, closed_c, less_c, lesseq_c, onelang_c, form_family, TargetCode, node_c, subjects_c, objects_c, class_c, target_family, LineCode, link_l, type_l, lang_l, thing_l, blank_l, number_l, text_l, words_l, fact_l, shape_l, rule_l, line_family}
use Rattle.grammar.specs.Reading.{Begun, after, path_begun, form_begun}
use Rattle.grammar.specs.Args.{arg_ok}
use Rattle.grammar.proofs.Args.{arg_depth, args_depth, after_all, write_args, args_ok}
use Rattle.grammar.proofs.Families.{Placed}

pub record Rows (above : Book) (k : Slot) (F : Family (Arg k)) (W : Arg k → List ℕ) (begun : Begun → Begun) : Type 0 where
  pub text : (c : F.Code) (xs : Args (F.slots c)) → W (F.build c xs) ≡ 40 ∷ (F.word c ++ (write_args above (F.slots c) xs ++ (41 ∷ [])))
  pub ok : (c : F.Code) (xs : Args (F.slots c)) → arg_ok above k (F.build c xs) ≡ args_ok above (F.slots c) xs
  pub depth : (c : F.Code) (xs : Args (F.slots c)) → arg_depth k (F.build c xs) ≡ suc (args_depth (F.slots c) xs)
  pub counts : (c : F.Code) (xs : Args (F.slots c)) (n : Begun) → after k (F.build c xs) n ≡ after_all (F.slots c) xs (begun n)

same-counts : {m n : Begun} → m.forms ≡ n.forms → m.paths ≡ n.paths → m.items ≡ n.items → m ≡ n
same-counts {m} {n} a b c = λ i. record { forms = a i; paths = b i; items = c i }

-- one and two places
and_one : (a : Bool) → a ≡ (a && true)
and_one a = sym (and-true a)

and_two : (a b : Bool) → (a && b) ≡ (a && (b && true))
and_two a b = ap (λ (c : Bool). a && c) (and_one b)

-- ---- PATH
path_text : (above : Book) (c : PathCode) (xs : Args (path_family.slots c)) → write_path above (path_family.build c xs) ≡ 40 ∷ (path_family.word c ++ (write_args above (path_family.slots c) xs ++ (41 ∷ [])))
unfolding write_path bracket spaced
path_text above inv_c xs = refl
path_text above seq_c xs = refl
path_text above alt_c xs = refl
path_text above star_c xs = refl
path_text above plus_c xs = refl

path_ok_lem : (above : Book) (c : PathCode) (xs : Args (path_family.slots c)) → path_ok above (path_family.build c xs) ≡ args_ok above (path_family.slots c) xs
unfolding path_ok
path_ok_lem above inv_c xs = and_one (path_ok above xs.0)
path_ok_lem above seq_c xs = and_two (path_ok above xs.0) (path_ok above xs.1.0)
path_ok_lem above alt_c xs = and_two (path_ok above xs.0) (path_ok above xs.1.0)
path_ok_lem above star_c xs = and_one (path_ok above xs.0)
path_ok_lem above plus_c xs = and_one (path_ok above xs.0)

path_depth_lem : (c : PathCode) (xs : Args (path_family.slots c)) → path_depth (path_family.build c xs) ≡ suc (args_depth (path_family.slots c) xs)
unfolding path_depth
path_depth_lem inv_c xs = omega arith
path_depth_lem seq_c xs = omega arith
path_depth_lem alt_c xs = omega arith
path_depth_lem star_c xs = omega arith
path_depth_lem plus_c xs = omega arith

path_counts : (c : PathCode) (xs : Args (path_family.slots c)) (n : Begun) → after path (path_family.build c xs) n ≡ after_all (path_family.slots c) xs (path_begun n)
unfolding after path_entries
path_counts inv_c xs n = same-counts refl (omega arith) refl
path_counts seq_c xs n = same-counts refl (omega arith) refl
path_counts alt_c xs n = same-counts refl (omega arith) refl
path_counts star_c xs n = same-counts refl (omega arith) refl
path_counts plus_c xs n = same-counts refl (omega arith) refl

pub path_rows : (above : Book) → Rows above path path_family (write_path above) path_begun
path_rows above = record { text = path_text above; ok = path_ok_lem above; depth = path_depth_lem; counts = path_counts }

pub path_placed : (c : PathCode) → Placed path_family c
unfolding index_of first_from eql allb edge
path_placed inv_c = (0, refl, refl, refl, refl)
path_placed seq_c = (1, refl, refl, refl, refl)
path_placed alt_c = (2, refl, refl, refl, refl)
path_placed star_c = (3, refl, refl, refl, refl)
path_placed plus_c = (4, refl, refl, refl, refl)

-- ---- FORM
form_text : (above : Book) (c : FormCode) (xs : Args (form_family.slots c)) → write_shape above (form_family.build c xs) ≡ 40 ∷ (form_family.word c ++ (write_args above (form_family.slots c) xs ++ (41 ∷ [])))
unfolding write_shape write_test bracket spaced
form_text above is_c xs = refl
form_text above shape_c xs = refl
form_text above and_c xs = refl
form_text above or_c xs = refl
form_text above not_c xs = refl
form_text above kind_c xs = refl
form_text above datatype_c xs = refl
form_text above lang_c xs = ap (λ (w : List ℕ). 40 ∷ (form_family.word lang_c ++ (w ++ (41 ∷ [])))) (sym (append-nil (spaced (map (name_of above langs) xs.0))))
form_text above from_c xs = refl
form_text above above_c xs = refl
form_text above to_c xs = refl
form_text above below_c xs = refl
form_text above count_c xs = refl
form_text above all_c xs = refl
form_text above equal_c xs = refl
form_text above apart_c xs = refl
form_text above closed_c xs = ap (λ (w : List ℕ). 40 ∷ (form_family.word closed_c ++ (w ++ (41 ∷ [])))) (sym (append-nil (spaced (map (name_of above links) xs.0))))
form_text above less_c xs = refl
form_text above lesseq_c xs = refl
form_text above onelang_c xs = refl

form_ok : (above : Book) (c : FormCode) (xs : Args (form_family.slots c)) → shape_ok above (form_family.build c xs) ≡ args_ok above (form_family.slots c) xs
unfolding shape_ok test_ok
form_ok above is_c xs = and_one _
form_ok above shape_c xs = and_one _
form_ok above and_c xs = and_two (shape_ok above xs.0) (shape_ok above xs.1.0)
form_ok above or_c xs = and_two (shape_ok above xs.0) (shape_ok above xs.1.0)
form_ok above not_c xs = and_one _
form_ok above kind_c xs = and_one _
form_ok above datatype_c xs = and_one _
form_ok above lang_c xs = and_one _
form_ok above from_c xs = and_one _
form_ok above above_c xs = and_one _
form_ok above to_c xs = and_one _
form_ok above below_c xs = and_one _
form_ok above count_c xs = and_assoc (leb xs.0 max_count) (upper_ok xs.1.0) (path_ok above xs.1.1.0 && shape_ok above xs.1.1.1.0) ∙ ap (λ (b : Bool). leb xs.0 max_count && (upper_ok xs.1.0 && b)) (and_two (path_ok above xs.1.1.0) (shape_ok above xs.1.1.1.0))
form_ok above all_c xs = and_two (path_ok above xs.0) (shape_ok above xs.1.0)
form_ok above equal_c xs = and_two (end_ok above xs.0) (defined above links xs.1.0)
form_ok above apart_c xs = and_two (end_ok above xs.0) (defined above links xs.1.0)
form_ok above closed_c xs = and_one _
form_ok above less_c xs = and_two (path_ok above xs.0) (defined above links xs.1.0)
form_ok above lesseq_c xs = and_two (path_ok above xs.0) (defined above links xs.1.0)
form_ok above onelang_c xs = and_one _

form_depth : (c : FormCode) (xs : Args (form_family.slots c)) → shape_depth (form_family.build c xs) ≡ suc (args_depth (form_family.slots c) xs)
unfolding shape_depth
form_depth is_c xs = omega arith
form_depth shape_c xs = omega arith
form_depth and_c xs = omega arith
form_depth or_c xs = omega arith
form_depth not_c xs = omega arith
form_depth kind_c xs = omega arith
form_depth datatype_c xs = omega arith
form_depth lang_c xs = omega arith
form_depth from_c xs = omega arith
form_depth above_c xs = omega arith
form_depth to_c xs = omega arith
form_depth below_c xs = omega arith
form_depth count_c xs = omega arith
form_depth all_c xs = omega arith
form_depth equal_c xs = omega arith
form_depth apart_c xs = omega arith
form_depth closed_c xs = omega arith
form_depth less_c xs = omega arith
form_depth lesseq_c xs = omega arith
form_depth onelang_c xs = omega arith

form_counts : (c : FormCode) (xs : Args (form_family.slots c)) (n : Begun) → after form (form_family.build c xs) n ≡ after_all (form_family.slots c) xs (form_begun n)
unfolding after form_entries shape_paths test_items list_items end_entries
form_counts is_c xs n = same-counts (omega arith) (omega arith) (omega arith)
form_counts shape_c xs n = same-counts (omega arith) (omega arith) (omega arith)
form_counts and_c xs n = same-counts (omega arith) (omega arith) (omega arith)
form_counts or_c xs n = same-counts (omega arith) (omega arith) (omega arith)
form_counts not_c xs n = same-counts (omega arith) (omega arith) (omega arith)
form_counts kind_c xs n = same-counts (omega arith) (omega arith) (omega arith)
form_counts datatype_c xs n = same-counts (omega arith) (omega arith) (omega arith)
form_counts lang_c xs n = same-counts (omega arith) (omega arith) (omega arith)
form_counts from_c xs n = same-counts (omega arith) (omega arith) (omega arith)
form_counts above_c xs n = same-counts (omega arith) (omega arith) (omega arith)
form_counts to_c xs n = same-counts (omega arith) (omega arith) (omega arith)
form_counts below_c xs n = same-counts (omega arith) (omega arith) (omega arith)
form_counts count_c xs n = same-counts (omega arith) (omega arith) (omega arith)
form_counts all_c xs n = same-counts (omega arith) (omega arith) (omega arith)
form_counts equal_c xs n = same-counts (omega arith) (omega arith) (omega arith)
form_counts apart_c xs n = same-counts (omega arith) (omega arith) (omega arith)
form_counts closed_c xs n = same-counts (omega arith) (omega arith) (omega arith)
form_counts less_c xs n = same-counts (omega arith) (omega arith) (omega arith)
form_counts lesseq_c xs n = same-counts (omega arith) (omega arith) (omega arith)
form_counts onelang_c xs n = same-counts (omega arith) (omega arith) (omega arith)

pub form_rows : (above : Book) → Rows above form form_family (write_shape above) form_begun
form_rows above = record { text = form_text above; ok = form_ok above; depth = form_depth; counts = form_counts }

pub form_placed : (c : FormCode) → Placed form_family c
unfolding index_of first_from eql allb edge
form_placed is_c = (0, refl, refl, refl, refl)
form_placed shape_c = (1, refl, refl, refl, refl)
form_placed and_c = (2, refl, refl, refl, refl)
form_placed or_c = (3, refl, refl, refl, refl)
form_placed not_c = (4, refl, refl, refl, refl)
form_placed kind_c = (5, refl, refl, refl, refl)
form_placed datatype_c = (6, refl, refl, refl, refl)
form_placed lang_c = (7, refl, refl, refl, refl)
form_placed from_c = (8, refl, refl, refl, refl)
form_placed above_c = (9, refl, refl, refl, refl)
form_placed to_c = (10, refl, refl, refl, refl)
form_placed below_c = (11, refl, refl, refl, refl)
form_placed count_c = (12, refl, refl, refl, refl)
form_placed all_c = (13, refl, refl, refl, refl)
form_placed equal_c = (14, refl, refl, refl, refl)
form_placed apart_c = (15, refl, refl, refl, refl)
form_placed closed_c = (16, refl, refl, refl, refl)
form_placed less_c = (17, refl, refl, refl, refl)
form_placed lesseq_c = (18, refl, refl, refl, refl)
form_placed onelang_c = (19, refl, refl, refl, refl)

-- ---- TARGET
target-text : (above : Book) (c : TargetCode) (xs : Args (target_family.slots c)) → write_target above (target_family.build c xs) ≡ 40 ∷ (target_family.word c ++ (write_args above (target_family.slots c) xs ++ (41 ∷ [])))
unfolding write_target bracket spaced
target-text above node_c xs = refl
target-text above subjects_c xs = refl
target-text above objects_c xs = refl
target-text above class_c xs = refl

target_ok_lem : (above : Book) (c : TargetCode) (xs : Args (target_family.slots c)) → target_ok above (target_family.build c xs) ≡ args_ok above (target_family.slots c) xs
unfolding target_ok
target_ok_lem above node_c xs = and_one _
target_ok_lem above subjects_c xs = and_one _
target_ok_lem above objects_c xs = and_one _
target_ok_lem above class_c xs = and_one _

target_depth : (c : TargetCode) (xs : Args (target_family.slots c)) → 1 ≡ suc (args_depth (target_family.slots c) xs)
target_depth node_c xs = refl
target_depth subjects_c xs = refl
target_depth objects_c xs = refl
target_depth class_c xs = refl

target-counts : (c : TargetCode) (xs : Args (target_family.slots c)) (n : Begun) → after target (target_family.build c xs) n ≡ after_all (target_family.slots c) xs n
unfolding after
target-counts node_c xs n = refl
target-counts subjects_c xs n = refl
target-counts objects_c xs n = refl
target-counts class_c xs n = refl

pub target-rows : (above : Book) → Rows above target target_family (write_target above) (λ n. n)
target-rows above = record { text = target-text above; ok = target_ok_lem above; depth = target_depth; counts = target-counts }

pub target_placed : (c : TargetCode) → Placed target_family c
unfolding index_of first_from eql allb edge
target_placed node_c = (0, refl, refl, refl, refl)
target_placed subjects_c = (1, refl, refl, refl, refl)
target_placed objects_c = (2, refl, refl, refl, refl)
target_placed class_c = (3, refl, refl, refl, refl)

-- ---- lines
pub line_placed : (c : LineCode) → Placed line_family c
unfolding index_of first_from eql allb edge
line_placed link_l = (0, refl, refl, refl, refl)
line_placed type_l = (1, refl, refl, refl, refl)
line_placed lang_l = (2, refl, refl, refl, refl)
line_placed thing_l = (3, refl, refl, refl, refl)
line_placed blank_l = (4, refl, refl, refl, refl)
line_placed number_l = (5, refl, refl, refl, refl)
line_placed text_l = (6, refl, refl, refl, refl)
line_placed words_l = (7, refl, refl, refl, refl)
line_placed fact_l = (8, refl, refl, refl, refl)
line_placed shape_l = (9, refl, refl, refl, refl)
line_placed rule_l = (10, refl, refl, refl, refl)
