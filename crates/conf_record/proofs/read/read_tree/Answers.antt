use Rattle.conf_record.proofs.Prelude.{own_limits}
use Rattle.conf_record.proofs.read.read_tree.Goals as goal

pub returns-in_ok-unless_out_of_memory-in-Err : goal.returns-in_ok-unless_out_of_memory-in-Err
returns-in_ok-unless_out_of_memory-in-Err c = record {
  some = tt;
  none = c.refused_bytes_give_none.ensures c.args.bytes.now own_limits c.in-Err.fault
      c.in_ok-unless_out_of_memory-in-Err.ensures c.in-Err.ensures.refused;
}
