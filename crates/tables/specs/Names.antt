-- The names that the tables hold: what stands before the first zero in a name's bytes, 31 of them at most. So no content of the names is
-- malformed. A name held twice in its pool means its lowest number.
use Rattle.std.specs.Prelude.{ℕ, ◌+◌, ◌*◌, List, [], ◌∷◌, cond, eqb, take, drop}
use Rattle.std.proofs.Math.Option.{Option}
use Rattle.base.specs.Bytes.{eql}
use Rattle.base.specs.Least.{least_of}
use Rattle.model.specs.Limits.{max_name, name_bytes}
use Rattle.model.specs.Books.{Name, under}
use Rattle.tables.specs.Layout.{link_names, link_count}

-- what stands before the first zero
unfoldable pub before_zero : List ℕ → List ℕ
before_zero [] = []
before_zero (x ∷ s) = cond (eqb x 0) [] (x ∷ before_zero s)

-- the name in the bytes from a place on
unfoldable pub name_from : List ℕ → ℕ → Name
name_from ns at = before_zero (take max_name (drop at ns))

-- that of node v, of link l
abbrev pub node_name_at : List ℕ → ℕ → Name
node_name_at ns v = name_from ns (name_bytes * v)

abbrev pub link_name_at : List ℕ → ℕ → Name
link_name_at ns l = name_from ns (link_names + name_bytes * l)

-- rdfs:subClassOf, where the tables have it; document 02, Job 5: the link named `under`
unfoldable pub sub_class_at : List ℕ → List ℕ → Option ℕ
sub_class_at ns cs = least_of (λ l. eql under (link_name_at ns l)) (link_count cs)
