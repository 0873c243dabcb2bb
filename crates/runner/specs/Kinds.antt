-- What each step asks for: a line for each step of document 01.
use Rattle.std.specs.Prelude.{ℕ}
use Rattle.model.specs.declared.NodeNo.{NodeNo}
use Rattle.model.specs.declared.LinkNo.{LinkNo}
use Rattle.plan.specs.Steps.{Step}
use Rattle.paths.specs.declared.End.{End}
use Rattle.entries.specs.Tables.{end_for}
use Rattle.stepsets.specs.declared.Condition.TheVariants.{Is, IsNot, Test, Untest, Count, Every, Equal, Unequal, Apart, Meet, Less, NotLess, LessEq, NotLessEq, OneLang, ManyLang, Closed, Open}
use Rattle.targets.specs.declared.Target.TheVariants.{From, Into, Typed}
use Rattle.runner.specs.declared.Kind.{Kind}
use Rattle.runner.specs.declared.Kind.TheVariants.{Whole, Empty, Node, Both, Either, Path, Ends, Lang, Selected, Links}

-- a number as that of a node, of a link
abbrev pub node : ℕ → NodeNo
node c = record { 0 = c }

abbrev pub link : ℕ → LinkNo
link l = record { 0 = l }

unfoldable pub kind_of : Step → Kind
kind_of Step.all = Whole
kind_of Step.none = Empty
kind_of (Step.is c) = Node (Is (node c))
kind_of (Step.isnot c) = Node (IsNot (node c))
kind_of (Step.test e) = Node (Test e)
kind_of (Step.untest e) = Node (Untest e)
kind_of (Step.both i j) = Both i j
kind_of (Step.either i j) = Either i j
kind_of (Step.count p j lo hi) = Path (Count lo hi) p j
kind_of (Step.every p j) = Path Every p j
kind_of (Step.equal f l) = Ends Equal (end_for f) (link l)
kind_of (Step.unequal f l) = Ends Unequal (end_for f) (link l)
kind_of (Step.apart f l) = Ends Apart (end_for f) (link l)
kind_of (Step.meet f l) = Ends Meet (end_for f) (link l)
kind_of (Step.closed e) = Links Closed e
kind_of (Step.opened e) = Links Open e
kind_of (Step.less p l) = Ends Less (End.Path p) (link l)
kind_of (Step.notless p l) = Ends NotLess (End.Path p) (link l)
kind_of (Step.lesseq p l) = Ends LessEq (End.Path p) (link l)
kind_of (Step.notlesseq p l) = Ends NotLessEq (End.Path p) (link l)
kind_of (Step.onelang p) = Lang OneLang p
kind_of (Step.manylang p) = Lang ManyLang p
kind_of (Step.from l) = Selected (From (link l))
kind_of (Step.into l) = Selected (Into (link l))
kind_of (Step.typed c) = Selected (Typed (node c))
kind_of Step.bad = Empty
