-- S1: the bytes are the low ones of the eight that the library makes of the number.
use Rattle.std.proofs.Common.{◌≡◌, sym, ap, ap₂, ◌∙◌, ◌++◌, List, ℕ, take, drop}
use Rattle.sheet.specs.Numbers.{bytes}
use Rattle.sheet.proofs.Numbers.{length_bytes}
use Rattle.writing.proofs.Lending.{low_bytes}
use Rattle.writing.proofs.put.Goals as goal

pub returns : goal.returns
returns g c =
    let n = g.row.N in
    let part : c.copy_from_slice.new.self ≡ bytes n c.args.x =
    c.copy_from_slice.ensures.after ∙ ap (take n) c.to_le_bytes.ensures ∙ low_bytes n c.args.x c.requires.0 in
    ap₂ (λ (p : List ℕ) (k : ℕ). p ++ drop k c.args.out.now) part (sym (length_bytes n c.args.x))
