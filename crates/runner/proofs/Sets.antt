-- What a step asks for: the words that the calls give for it are the step's set, and a right step meets what they require.
use Prim.Native.Nat.{ℕ, ◌+◌, ◌-◌, ◌*◌, ◌≤◌, ◌<◌, suc}
use mathlib.Core.List.{List, []}
use mathlib.Core.Option.{Option}
use mathlib.Core.Bool.{Bool, true, false, ◌&&◌, ◌||◌, true≢false}
use mathlib.Core.Path.{◌≡◌, refl, sym, ap, ◌∙◌}
use native.Mathlib.Omega.{arith}
use lib.Dec.{ltb, leb}
use lib.IntN.{ℤ}
use lib.ListN.{drop, replicate}
use borrow.Author.Tests.{ltb-true}
use Rattle.base.specs.Bounded.{size}
use Rattle.base.specs.Lists.{member}
use Rattle.base.proofs.Bools.{bool_cases, and_left, two-below}
use Rattle.base.proofs.Bounded.{size_beyond}
use Rattle.nodeset.specs.Words.{has, words_of, nodes_of}
use Rattle.nodeset.proofs.Sets.{zeros}
use Rattle.model.specs.Graph.{holds}
use Rattle.model.specs.Limits.{max_count, max_nodes, max_steps}
use Rattle.model.specs.Paths as model
use Rattle.model.specs.Paths.{along, ends_of}
use Rattle.model.specs.Shapes.{within, subset, from, objects, starts, conforms}
use Rattle.model.specs.Rules.{selects}
use Rattle.tables.specs.Codes as codes
use Rattle.tables.specs.Layout.{node_count, link_count, path_count, form_count, form_code_at, form_first_at, form_second_at}
use Rattle.tables.specs.Decode.{graph_at, items_at, path_at, end_at, upper_of, entry_at}
use Rattle.tables.specs.WellFormed as tables
use Rattle.tables.specs.WellFormed.{upper_ok}
use Rattle.tables.proofs.WellFormed.{sound}
use Rattle.plan.specs.Steps.{Step}
use Rattle.plan.specs.Layout.{step_at}
use Rattle.plan.specs.Sets.{links_of, in_step}
use Rattle.plan.specs.WellFormed.{closed_ok, step_ok}
use Rattle.plancheck.proofs.Codes.{test_codes, closed-codes}
use Rattle.paths.specs.Facts.{Tables}
use Rattle.paths.specs.Ends.{end_in, end_known}
use Rattle.entries.specs.Tables.{end_for}
use Rattle.entries.proofs.Ends.{end_in_lem, end-ok}
use Rattle.stepsets.specs.Conditions.{holds_of, tagged, condition_ok}
use Rattle.stepsets.specs.declared.Condition.{Condition}
use Rattle.stepsets.specs.declared.Condition.TheVariants.{Equal, Unequal, Apart, Meet}
use Rattle.stepsets.proofs.Conditions.{one-tagged, many-tagged}
use Rattle.stepsets.proofs.Nodes.{nodes_ext, nodes-all, nodes_never}
use Rattle.stepsets.proofs.Rows.{ends_low}
use Rattle.targets.specs.Targets.{target_in, TargetOk}
use Rattle.runner.specs.declared.Kind.{Kind}
use Rattle.runner.specs.declared.Kind.TheVariants.{Whole, Empty, Node, Both, Either, Path, Ends, Lang, Selected, Links}
use Rattle.runner.specs.Kinds.{kind_of}
use Rattle.runner.specs.Steps.{step_from}
use Rattle.runner.proofs.Tests.{test_meets, opened_by, closed_by}

-- the words, as the calls promise them
module _ (sub : Option ℕ) (cs : List ℕ) (vs : List ℤ) (ws : List ℕ) where
  unfoldable pub kind_set : Kind → List ℕ
  kind_set Whole = words_of (λ v. ltb v (node_count cs)) 16
  kind_set Empty = replicate 16 0
  kind_set (Node condition) = nodes_of (λ v. holds_of cs vs condition (λ w. false) (λ w. false) v) (node_count cs)
  kind_set (Both i j) = nodes_of (λ v. has (drop (16 * i) ws) v && has (drop (16 * j) ws) v) (node_count cs)
  kind_set (Either i j) = nodes_of (λ v. has (drop (16 * i) ws) v || has (drop (16 * j) ws) v) (node_count cs)
  kind_set (Path condition p j) = nodes_of (λ v. holds_of cs vs condition (from (graph_at cs vs) (path_at cs p) v) (has (drop (16 * j) ws)) v) (node_count cs)
  kind_set (Ends condition end l) = nodes_of (λ v. holds_of cs vs condition (starts (graph_at cs vs) (end_in cs end) v) (objects (graph_at cs vs) l.0 v) v) (node_count cs)
  kind_set (Lang condition p) = nodes_of (λ v. holds_of cs vs condition (from (graph_at cs vs) (path_at cs p) v) (tagged cs) v) (node_count cs)
  kind_set (Selected target) = nodes_of (selects sub (graph_at cs []) (target_in target)) (node_count cs)
  kind_set (Links condition e) = nodes_of (λ v. holds_of cs vs condition (λ w. false) (λ l. member l (items_at cs (form_first_at cs e) (form_second_at cs e))) v) (node_count cs)

-- what the calls require
abbrev pub KindOk : List ℕ → Kind → Type 0
KindOk cs Whole = Unit {0}
KindOk cs Empty = Unit {0}
KindOk cs (Node condition) = condition_ok cs condition ≡ true
KindOk cs (Both i j) = (i < 65536) × (j < 65536)
KindOk cs (Either i j) = (i < 65536) × (j < 65536)
KindOk cs (Path condition p j) = (p < path_count cs) × (j < 65536) × (condition_ok cs condition ≡ true)
KindOk cs (Ends condition end l) = (end_known cs end ≡ true) × (condition_ok cs condition ≡ true)
KindOk cs (Lang condition p) = (p < path_count cs) × (condition_ok cs condition ≡ true)
KindOk cs (Selected target) = TargetOk cs target
KindOk cs (Links condition e) = (e < form_count cs) × (form_code_at cs e ≡ codes.form_closed) × (condition_ok cs condition ≡ true)

-- ---- a right step meets it
module _ (cs : List ℕ) (k : ℕ) (low : k < max_steps) where
  -- two lower steps; a path entry and a lower step; a path entry as an END; a list of links
  lower : (i j : ℕ) → (ltb i k && ltb j k) ≡ true → (i < 65536) × (j < 65536)
  lower i j w = let l : (i < k) × (j < k) = two-below i k j k w in (omega arith, omega arith)

  on_path_lem : (p j : ℕ) → (ltb p (path_count cs) && ltb j k) ≡ true → (p < path_count cs) × (j < 65536) × (true ≡ true)
  on_path_lem p j w = let l : (p < path_count cs) × (j < k) = two-below p (path_count cs) j k w in (l.0, omega arith, refl)

  an_end : (f l : ℕ) → (tables.end_number_ok cs f && ltb l (link_count cs)) ≡ true → end_known cs (end_for f) ≡ true
  an_end f l w = end-ok cs f (and_left (tables.end_number_ok cs f) (ltb l (link_count cs)) w)

  listing : (e : ℕ) → closed_ok cs e ≡ true → (e < form_count cs) × (form_code_at cs e ≡ codes.form_closed) × (true ≡ true)
  unfolding closed_ok
  listing e w = (ltb-true e (form_count cs) (and_left (ltb e (form_count cs)) (holds (λ ps. true) (links_of cs (entry_at cs [] e))) w), closed-codes cs e w, refl)

  pub kind_ok : (s : Step) → step_ok cs k s ≡ true → KindOk cs (kind_of s)
  unfolding kind_of step_ok condition_ok end_known
  kind_ok Step.all w = tt
  kind_ok Step.none w = tt
  kind_ok (Step.is c) w = refl
  kind_ok (Step.isnot c) w = refl
  kind_ok (Step.test e) w = test_codes cs e w
  kind_ok (Step.untest e) w = test_codes cs e w
  kind_ok (Step.both i j) w = lower i j w
  kind_ok (Step.either i j) w = lower i j w
  kind_ok (Step.count p j lo hi) w = on_path_lem p j (and_left (ltb p (path_count cs) && ltb j k) (leb lo (suc max_count) && upper_ok cs hi) w)
  kind_ok (Step.every p j) w = on_path_lem p j w
  kind_ok (Step.equal f l) w = (an_end f l w, refl)
  kind_ok (Step.unequal f l) w = (an_end f l w, refl)
  kind_ok (Step.apart f l) w = (an_end f l w, refl)
  kind_ok (Step.meet f l) w = (an_end f l w, refl)
  kind_ok (Step.closed e) w = listing e w
  kind_ok (Step.opened e) w = listing e w
  kind_ok (Step.less p l) w = (and_left (ltb p (path_count cs)) (ltb l (link_count cs)) w, refl)
  kind_ok (Step.notless p l) w = (and_left (ltb p (path_count cs)) (ltb l (link_count cs)) w, refl)
  kind_ok (Step.lesseq p l) w = (and_left (ltb p (path_count cs)) (ltb l (link_count cs)) w, refl)
  kind_ok (Step.notlesseq p l) w = (and_left (ltb p (path_count cs)) (ltb l (link_count cs)) w, refl)
  kind_ok (Step.onelang p) w = (ltb-true p (path_count cs) w, refl)
  kind_ok (Step.manylang p) w = (ltb-true p (path_count cs) w, refl)
  kind_ok (Step.from l) w = tt
  kind_ok (Step.into l) w = tt
  kind_ok (Step.typed c) w = ltb-true c (node_count cs) w
  kind_ok Step.bad w = tt

-- ---- the words are those of its set
module _ (sub : Option ℕ) (cs index : List ℕ) (tables : Tables cs index) (vs : List ℤ) (ws : List ℕ) (k : ℕ) where
  abbrev n : ℕ
  n = node_count cs

  -- the ends are nodes: there is nothing to count past the last
  counted : (p j lo hi : ℕ) → kind_set sub cs vs ws (kind_of (Step.count p j lo hi)) ≡ nodes_of (in_step sub cs vs (Step.count p j lo hi) (λ j. has (drop (16 * j) ws))) n
  unfolding kind_set kind_of in_step holds_of graph_at ends_of
  counted p j lo hi = nodes_ext _ _ n (λ v l.
      let q : ℕ → Bool = λ w. from (graph_at cs vs) (path_at cs p) v w && has (drop (16 * j) ws) w in
      ap (within lo (upper_of hi)) (ap (size q) (let z : max_nodes ≡ n + (max_nodes - n) = omega (arith, (sound cs tables.ok).nodes) in z) ∙ size_beyond q n (max_nodes - n) (λ w m. past v l w m)))
    where
      past : (v : ℕ) → v < n → (w : ℕ) → n ≤ w → (from (graph_at cs vs) (path_at cs p) v w && has (drop (16 * j) ws) w) ≡ false
      past v l w m = bool_cases (λ t. from (graph_at cs vs) (path_at cs p) v w ≡ t → (t && has (drop (16 * j) ws) w) ≡ false) (from (graph_at cs vs) (path_at cs p) v w) (λ _ q. let z : w < n = ends_low cs index tables (along (path_at cs p)) v w l q in absurd (omega arith)) (λ _ q. refl) refl

  -- the operand END
  by_end : (condition : Condition) (f l : ℕ) → nodes_of (λ v. holds_of cs vs condition (starts (graph_at cs vs) (end_in cs (end_for f)) v) (objects (graph_at cs vs) l v) v) n ≡ nodes_of (λ v. holds_of cs vs condition (starts (graph_at cs vs) (end_at cs f) v) (objects (graph_at cs vs) l v) v) n
  by_end condition f l = ap (λ (x : model.End). nodes_of (λ v. holds_of cs vs condition (starts (graph_at cs vs) x v) (objects (graph_at cs vs) l v) v) n) (end_in_lem cs f)

  kind-set : (s : Step) → step_ok cs k s ≡ true → kind_set sub cs vs ws (kind_of s) ≡ nodes_of (in_step sub cs vs s (λ j. has (drop (16 * j) ws))) n
  unfolding kind_set kind_of step_ok in_step selects conforms holds_of graph_at subset end_in ends_of
  kind-set Step.all w = nodes-all n
  kind-set Step.none w = zeros 16 ∙ nodes_never n
  kind-set (Step.is c) w = refl
  kind-set (Step.isnot c) w = refl
  kind-set (Step.test e) w = nodes_ext _ _ n (λ v l. test_meets cs vs e w v)
  kind-set (Step.untest e) w = refl
  kind-set (Step.both i j) w = refl
  kind-set (Step.either i j) w = refl
  kind-set (Step.count p j lo hi) w = counted p j lo hi
  kind-set (Step.every p j) w = refl
  kind-set (Step.equal f l) w = by_end Equal f l
  kind-set (Step.unequal f l) w = by_end Unequal f l
  kind-set (Step.apart f l) w = by_end Apart f l
  kind-set (Step.meet f l) w = by_end Meet f l
  kind-set (Step.closed e) w = nodes_ext _ _ n (λ v l. closed_by cs vs e w v)
  kind-set (Step.opened e) w = nodes_ext _ _ n (λ v l. opened_by cs vs e w v)
  kind-set (Step.less p l) w = refl
  kind-set (Step.notless p l) w = refl
  kind-set (Step.lesseq p l) w = refl
  kind-set (Step.notlesseq p l) w = refl
  kind-set (Step.onelang p) w = nodes_ext _ _ n (λ v l. one-tagged cs vs (from (graph_at cs vs) (path_at cs p) v) v)
  kind-set (Step.manylang p) w = nodes_ext _ _ n (λ v l. many-tagged cs vs (from (graph_at cs vs) (path_at cs p) v) v)
  kind-set (Step.from l) w = refl
  kind-set (Step.into l) w = refl
  kind-set (Step.typed c) w = refl
  kind-set Step.bad w = absurd (true≢false (sym w))

  -- of step k
  pub kind-from : (ps : List ℕ) → step_ok cs k (step_at ps k) ≡ true → kind_set sub cs vs ws (kind_of (step_at ps k)) ≡ step_from sub cs vs ps ws k
  unfolding step_from
  kind-from ps w = kind-set (step_at ps k) w
