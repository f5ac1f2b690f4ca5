-- S1: the bytes before the zeros are those of the field.
use Rattle.std.proofs.Common.{◌≡◌, ap, ◌∙◌, rules, subst, arith, ◌^◌, ◌<◌, length, ℕ, take, drop, length-take, length-drop}
use Rattle.sheet.specs.Numbers.{AreBytes, number}
use Rattle.sheet.proofs.Numbers.{number_part, bytes_take, bytes_drop}
use Rattle.numbers.proofs.Bytes.{number_padded, number_below}
use Rattle.numbers.proofs.number.Goals as goal

pub returns : goal.returns
returns g c =
    let n = g.row.N in
    let at = c.args.at in
    let s = c.args.s.now in
    let part = take n (drop at s) in
    let same : c.copy_from_slice.new.self ≡ part =
    c.copy_from_slice.ensures.after ∙ ap (λ (k : ℕ). take k (drop at s)) (omega arith) in
    let size : length part ≡ n = omega (arith, length-take n (drop at s), length-drop at s) in
    let whole : c.from_le_bytes.result ≡ number part =
    c.from_le_bytes.ensures ∙ number_padded n c.copy_from_slice.new.self c.requires.0 (ap length same ∙ size) ∙ ap number same in
    let bytes : AreBytes s = λ i. let fits = c.type_inv.s i in search rules in
    let below : number part < 256 ^ n = subst (λ (k : ℕ). number part < 256 ^ k) size (number_below part (bytes_take n (drop at s) (bytes_drop at s bytes))) in
    (whole ∙ number_part at n s, omega (arith, whole))
