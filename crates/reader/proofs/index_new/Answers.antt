use mathlib.Core.Path.{ap, ◌∙◌}
use Rattle.model.specs.Books.{links, types, langs, shapes}
use Rattle.reader.specs.Indexing.{pool_joined, all_joined}
use Rattle.reader.proofs.index_new.Goals as goal

pub returns : goal.returns
unfolding all_joined
returns c =
    let J = pool_joined c.args.names.now c.args.before c.args.after in
    c.index_pool-5.ensures ∙ ap (J shapes) (c.index_pool-4.ensures ∙ ap (J langs) (c.index_pool-3.ensures ∙ ap (J types) (c.index_pool-2.ensures ∙ ap (J links) c.index_pool.ensures)))
