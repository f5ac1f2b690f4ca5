-- The sheet that a product becomes, byte for byte (B7 to B9; document 02, request 1): row g is action g, in the alphabet of each component
-- that takes part in it, where its only transition is the one that the row names. There are no other transitions and no steps.
-- Assumes nothing.
use Rattle.std.specs.Prelude.{Bool, true, false, cond, List, [], ◌∷◌, ◌++◌, map, ℕ, eqb}
use Rattle.std.proofs.Math.Option.{Option, none, some}
use Rattle.sets.specs.Lists.{append_all, keep, below}
use Rattle.sets.specs.Bits.{set_of}
use Rattle.sheet.specs.Numbers.{bytes}
use Rattle.sheet.specs.Writing.{sheet_of}
use Rattle.products.specs.Product.{Component, Product}

-- B7: whether a component takes part, by what the row has for it
abbrev pub takes_part : Option ℕ → Bool
takes_part none = false
takes_part (some t) = true

-- B7: the rows of a list in which component j takes part
abbrev pub parts_of : Product → ℕ → List ℕ → List ℕ
parts_of P j [] = []
parts_of P j (g ∷ gs) = keep (takes_part (P.takes g j)) g (parts_of P j gs)

-- B7: the alphabet of component j: the rows in which it takes part
unfoldable pub alphabet : Product → ℕ → ℕ
alphabet P j = set_of (parts_of P j (below P.rows))

-- B8: the record of component j: state count, three zero bytes, the set of its one initial state, its alphabet
unfoldable pub record_bytes : Product → ℕ → List ℕ
record_bytes P j =
    let C = P.component j in
    bytes 1 C.states ++ (bytes 3 0 ++ (bytes 4 (set_of (C.initial ∷ [])) ++ bytes 8 (alphabet P j)))

-- B9: the transition that row g gives component j where it leaves the state q: component, source, label, target
abbrev pub leaving : Component → ℕ → ℕ → ℕ → Option ℕ → List (List ℕ)
leaving C j q g none = []
leaving C j q g (some t) = cond (eqb (C.source t) q) ((j ∷ q ∷ g ∷ C.target t ∷ []) ∷ []) []

-- B9: the transitions, rising by component, source and label: those of component j that leave the state q
unfoldable pub transitions_from : Product → ℕ → ℕ → List (List ℕ)
transitions_from P j q = append_all (map (λ g. leaving (P.component j) j q g (P.takes g j)) (below P.rows))

-- B9: all of component j
unfoldable pub transitions_of : Product → ℕ → List (List ℕ)
transitions_of P j = append_all (map (transitions_from P j) (below (P.component j).states))

-- B9: all of them
unfoldable pub sheet_transitions : Product → List (List ℕ)
sheet_transitions P = append_all (map (transitions_of P) (below P.components))

-- B8, B9: the bytes before the steps
unfoldable pub product_front : Product → List ℕ
product_front P = append_all (map (record_bytes P) (below P.components)) ++ append_all (sheet_transitions P)

-- B7 to B9: the sheet, without steps
unfoldable pub product_sheet : Product → List ℕ
product_sheet P = sheet_of (product_front P) P.components P.rows []
