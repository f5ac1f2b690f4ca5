-- B8, B9: each part is that of a component.
use Rattle.std.proofs.Common.{refl}
use Rattle.rows.proofs.table.Places.{column_told}
use Rattle.rows.proofs.product.Product.column.Goals as goal

pub returns : goal.returns
returns c = (refl, refl, column_told _ _ c.args.self.now.read c.args.j c.requires)
