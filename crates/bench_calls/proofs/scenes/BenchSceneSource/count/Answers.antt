use Rattle.std.proofs.Common.{sym}
use Rattle.bench_calls.specs.Lent.{length_seen}
use Rattle.bench_calls.proofs.scenes.BenchSceneSource.count.Goals as goal

pub returns : goal.returns
returns c = sym (length_seen c.args.self.now.rows 0 4096)
