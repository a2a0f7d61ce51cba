use Rattle.pull_exchange.proofs.Parts.{of_first, of_second}
use Rattle.pull_exchange.proofs.streams.write_both.Goals as goal

pub returns-in_err-write_all-clause-err : goal.returns-in_err-write_all-clause-err
returns-in_err-write_all-clause-err g c =
    of_first c.from_residual.result (g.K.Ends.held c.args.sink.now) (g.K.Ends.held c.write_all.new.sink) c.args.first.now c.args.second.now c.in_err-write_all.ensures.err

pub returns-clause-err : goal.returns-clause-err
returns-clause-err g c =
    of_second c.write_all-2.result (g.K.Ends.held c.args.sink.now) (g.K.Ends.held c.write_all.new.sink) (g.K.Ends.held c.write_all-2.new.sink) c.args.first.now c.args.second.now
    c.in_ok-write_all.ensures.ok c.write_all-2.ensures.err
