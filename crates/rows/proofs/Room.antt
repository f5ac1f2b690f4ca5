-- R13, B6: no room smaller than rows_room serves for every product: the sheet of the largest product fills it.
-- Assumes nothing.
use mathlib.Core.Path.{◌≡◌, refl}
use mathlib.Core.Option.{some}
use lib.ListN.{length}
use Rattle.sets.specs.Lists.{upward, below}
use Rattle.sheet.specs.Writing.{trailer, sheet_of}
use Rattle.products.specs.Product.{Product}
use Rattle.products.specs.ProductSheet.{alphabet, record_bytes, transitions_from, transitions_of, sheet_transitions, product_front, product_sheet}
use Rattle.rows.specs.Demands.{rows_room}

-- B2: 16 components of one state, each with 64 transitions; row g takes transition g of every component
abbrev largest : Product
largest =
    record {
      components = 16;
      component = λ j. record { states = 1; initial = 0; transitions = 64; source = λ t. 0; target = λ t. 0 };
      rows = 64;
      takes = λ g j. some g;
    }

-- R13, B6, B9: its sheet has just so many bytes
pub room_filled : length (product_sheet largest) ≡ rows_room
unfolding upward below alphabet record_bytes transitions_from transitions_of sheet_transitions product_front product_sheet trailer sheet_of
room_filled = refl
