-- As many spaces as a value has bytes have as many bytes.
use Rattle.std.proofs.Common.{arith}
use Rattle.conf_record.proofs.Prelude.{on_ok_weaker, byte_len-spaces}
use Rattle.conf_record.proofs.record_sink.ByteCountRecordSink.put_value.Goals as goal

pub returns-clause-takes : goal.returns-clause-takes
returns-clause-takes c =
    let spaced = byte_len-spaces c.value_length.result in
    let length = c.value_length.ensures.length in
    on_ok_weaker c.put_spaces.result (λ counted. omega (arith, spaced, length, counted)) c.put_spaces.ensures
