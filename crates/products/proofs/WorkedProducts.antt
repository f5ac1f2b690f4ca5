-- The worked products come out as their table says, by one computed test.
-- Assumes nothing.
use mathlib.Core.Path.{◌≡◌, refl}
use mathlib.Core.Bool.{true}
use Rattle.sets.specs.Lists.{all_of, upward, below}
use Rattle.sheet.specs.Writing.{trailer, sheet_of}
use Rattle.answers.specs.LentOutput.{length_or13}
use Rattle.answers.specs.Worked.{comes_out}
use Rattle.products.specs.ProductBytes.{components_in, rows_in, component_at, rows_at, entry, product_of}
use Rattle.products.specs.ProductSheet.{alphabet, record_bytes, transitions_from, transitions_of, sheet_transitions, product_front, product_sheet}
use Rattle.products.specs.ProductVerdict.{malformed, bad_row, idle_component, rows_outcome, rows_output}
use Rattle.products.specs.WorkedProducts.{worked_products}

-- B5 to B9, R13, R15, R16, R17, O8: each row of the table comes out as it is due
pub products_come_out : all_of comes_out worked_products ≡ true
unfolding upward below trailer sheet_of length_or13 components_in rows_in component_at rows_at entry product_of alphabet record_bytes transitions_from
    transitions_of sheet_transitions product_front product_sheet malformed bad_row idle_component rows_outcome rows_output
products_come_out = refl
