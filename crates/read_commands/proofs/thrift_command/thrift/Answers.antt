use Rattle.std.proofs.Common.{refl, rules}
use Rattle.command_parts.specs.World.{StopsWriting}
use Rattle.command_parts.specs.Stops.{IsAboutFile}
use Rattle.command_parts.proofs.TextAnswers.{text_completes, text_stops, plain_about}
use Rattle.read_commands.specs.ThriftCommand.{is_thrift_cause}
use Rattle.read_commands.proofs.Structs.{thrift_done, thrift_completes}
use Rattle.read_commands.proofs.thrift_command.thrift.Goals as goal

pub returns : goal.returns
returns g c = record {
  guarantees = λ draws err.
      let answered = c.print_text.ensures.answered _ _ (c.about.ensures.gives _ _ (rw c.as_str.ensures at c.thrift_text-text.ensures.answer)) in
      let causes = c.print_text.ensures.causes is_thrift_cause (c.about.ensures.causes is_thrift_cause c.thrift_text-text.ensures.causes) in
      let reads = c.print_text.ensures.reads _ _ (c.about.ensures.reads _ _ c.thrift_text-text.ensures.reads) in
      let writes : StopsWriting (g.O.Sink.faults c.args.out.now) (g.O.Sink.faults c.print_text.new.out) c.print_text.result = search rules in
      record {
        text = record {
          answered = answered;
          causes = causes;
          writes = writes;
          given = c.thrift_text-text.ensures.given;
          reads_only = record { published = c.thrift_text-text.ensures.published; random = refl {a = draws}; err = refl {a = err} };
          every = search rules;
        };
        done = thrift_done _ _ _ _ _ _ (rw c.as_str.ensures at c.thrift_text-text.ensures.held) (rw c.about.ensures.stop at c.print_text.ensures.printed);
        complete = thrift_completes _ _ _ _ (text_completes _ _ _ _ _ _ _ _ _ is_thrift_cause refl refl answered reads writes causes);
        subject = text_stops (IsAboutFile c.args.args.file) (plain_about c.args.args.file) _ _ c.about.ensures.named c.print_text.ensures.stops;
        unread = rw c.as_str.ensures at c.thrift_text-text.ensures.unread;
      };
}
