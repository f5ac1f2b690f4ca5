-- `records::decoded`, which serves S3: the entries are the fields of the record.
-- Assumes nothing.
use Rattle.std.proofs.Common.{refl, arith, ◌*◌}
use Rattle.reading.proofs.records.Decoding.{states_field, initial_field, alphabet_field}
use Rattle.reading.proofs.records.decoded.Goals as goal

pub returns : goal.returns
returns c =
    let b = c.args.records.now in
    record {
      states_decoded = states_field b c.args.j _ c.from.ensures;
      initial_decoded = initial_field b c.args.j _ c.number.ensures.0;
      alphabet_decoded = alphabet_field b c.args.j _ c.number-2.ensures.0;
      begins = refl;
      small = omega (arith, c.type_inv.records (16 * c.args.j));
    }
