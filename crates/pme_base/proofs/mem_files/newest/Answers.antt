use Rattle.std.proofs.Common.{arith}
use Rattle.std.specs.Cmp.Lexicographic.{texts_ties}
use Rattle.pme_base.proofs.mem_files.newest.Goals as goal

pub returns-then-eq : goal.returns-then-eq
returns-then-eq c = let same = texts_ties c.args.name.now c.in-Some.entry.now.0 in grind (arith, same)

pub loop-entry-preserved : goal.loop-entry-preserved
loop-entry-preserved c = let same = texts_ties c.args.name.now c.in-Some.entry.now.0 in grind (arith, same)
