-- `replay` meets its contract: a refusal leaves the report as it came. Assumes nothing.
use Rattle.tstd.proofs.Core.{ended_accepted, ended_refused}
use Rattle.tstd.proofs.replay.Goals as goal

pub returns-in-Ok : goal.returns-in-Ok
returns-in-Ok c = ended_accepted c.args.report c.outcome.ensures c.in-Ok.is

pub returns-in-Err : goal.returns-in-Err
returns-in-Err c = ended_refused c.args.report c.outcome.ensures c.in-Err.is c.refused.ensures
