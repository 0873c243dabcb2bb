use Prim.Native.Nat.{ℕ}
use mathlib.Core.List.{List}
use mathlib.Core.Path.{◌≡◌, sym, ap, subst}
use lib.ListN.{replicate}
use borrow.Author.Rules.{rules}
use Rattle.model.specs.declared.Counts.{Counts}
use Rattle.itemreader.specs.Held.{Indexed, name_index_count}
use Rattle.reader.specs.Answers.{no_counts}
use Rattle.reader.specs.Indexing.{all_joined}
use Rattle.reader.proofs.Indexing.{start-indexed}
use Rattle.reader.proofs.read_lines.Goals as goal

-- counts that are all 0, and with the built-in names
zeros : (n : Counts) → (n.nodes ≡ 0) × ((n.links ≡ 0) × ((n.types ≡ 0) × ((n.langs ≡ 0) × ((n.shapes ≡ 0) × ((n.facts ≡ 0) × ((n.paths ≡ 0) × ((n.forms ≡ 0) × ((n.items ≡ 0) × (n.rules ≡ 0))))))))) → n ≡ no_counts
zeros n (a, (b, (c, (d, (e, (f, (g, (h, (k, l))))))))) = λ i. record { nodes = a i; links = b i; types = c i; langs = d i; shapes = e i; facts = f i; paths = g i; forms = h i; items = k i; rules = l i }

abbrev begun : Counts → Counts
begun n = record { nodes = n.nodes; links = 1; types = 1; langs = n.langs; shapes = n.shapes; facts = n.facts; paths = n.paths; forms = n.forms; items = n.items; rules = n.rules }

pub read_from-requires : goal.read_from-requires
read_from-requires c =
    let none : c.default-none.result ≡ no_counts = zeros c.default-none.result c.default-none.ensures in
    let ns : List ℕ = c.args.names.now in
    let P : Counts → Type 0 = λ n. Indexed ns (begun n) (all_joined ns n (begun n) (replicate name_index_count 0)) in
    (c.requires.0, c.requires.1, c.requires.2, c.requires.3, search rules, ap begun none, subst (Indexed ns (begun c.default-none.result)) (sym c.index_new.ensures) (subst P (sym none) (start-indexed ns)))
