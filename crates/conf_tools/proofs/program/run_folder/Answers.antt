-- The disk was opened, used and given back.
use Rattle.std.{proofs.Common.{inl, inr, refl}, specs.Prelude.None}
use Rattle.conf_tools.proofs.OutcomeLemmas.{session_told}
use Rattle.conf_tools.proofs.program.run_folder.Goals as goal

pub returns-in-Ok-clause-runs : goal.returns-in-Ok-clause-runs
returns-in-Ok-clause-runs g c = inr (record {
  first = c.in-Ok.disk;
  opened = c.open.new.self;
  opens = c.in-Ok.ensures;
  result = c.run_store-ended.result;
  gives_back = c.end_session.ensures.back;
  ends = c.end_session.ensures.ends;
  runs = c.run_store-ended.ensures.runs;
  survives = c.run_store-ended.ensures.crashes;
})

pub returns-in-Ok-clause-told : goal.returns-in-Ok-clause-told
returns-in-Ok-clause-told g c =
    session_told g.E.Listener.hears c.run_store-ended.new.reader.tail c.run_store-ended.result c.args.errors.now
    c.run_store-ended.new.errors c.end_session.new.errors c.run_store-ended.ensures.told c.end_session.ensures.told

pub returns-in-Err-clause-told : goal.returns-in-Err-clause-told
returns-in-Err-clause-told g c = record { opened = c.args.errors.now; dropped = inl refl; end = None; rest = 0; tells = refl }

pub returns-in-Ok-clause-tells : goal.returns-in-Ok-clause-tells
returns-in-Ok-clause-tells g c = inr (record {
  does = record {
    first = c.in-Ok.disk;
    opened = c.open.new.self;
    opens = c.in-Ok.ensures;
    result = c.run_store-ended.result;
    gives_back = c.end_session.ensures.back;
    ends = c.end_session.ensures.ends;
    runs = c.run_store-ended.ensures.runs;
    survives = c.run_store-ended.ensures.crashes;
  };
  opened = c.run_store-ended.new.errors;
  dropped = c.run_store-ended.ensures.dropped;
  unopened = c.run_store-ended.ensures.untold;
  rest = c.end_session.ensures.told;
})

pub returns-in-Err-clause-tells : goal.returns-in-Err-clause-tells
returns-in-Err-clause-tells g c = inl (record {
  cannot = record {
    cannot = record { fault = c.in-Err.fault; opens = c.in-Err.ensures; ends = refl };
    streams = record { input = refl; output = refl };
  };
  untold = refl;
})
