use Rattle.std.proofs.Common.{refl, rules}
use Rattle.command_parts.specs.World.{StopsWriting}
use Rattle.command_parts.proofs.TextAnswers.{text_completes, text_stops}
use Rattle.read_commands.specs.FooterCommand.{IsAboutOneOf, is_footer_cause}
use Rattle.read_commands.proofs.Tails.{footer_done, footer_completes, plain_named}
use Rattle.read_commands.proofs.footer_command.footer.Goals as goal

pub returns : goal.returns
returns g c = record {
  guarantees = λ draws err.
      let answered = c.print_text.ensures.answered _ _ c.footer_text-text.ensures.gives in
      let causes = c.print_text.ensures.causes is_footer_cause c.footer_text-text.ensures.causes in
      let reads = c.print_text.ensures.reads _ _ c.footer_text-text.ensures.reads in
      let writes : StopsWriting (g.O.Sink.faults c.args.out.now) (g.O.Sink.faults c.print_text.new.out) c.print_text.result = search rules in
      record {
        text = record {
          answered = answered;
          causes = causes;
          writes = writes;
          given = c.footer_text-text.ensures.given;
          reads_only = record { published = c.footer_text-text.ensures.published; random = refl {a = draws}; err = refl {a = err} };
          every = search rules;
        };
        done = footer_done c.args.args _ _ _ _ (g.met.F.Files.bytes c.args.files.now) answered.printed;
        complete = footer_completes c.args.args _ _ _ (text_completes _ _ _ _ _ _ _ _ _ is_footer_cause refl refl answered reads writes causes);
        subject = text_stops (IsAboutOneOf c.args.args) (plain_named c.args.args) _ _ c.footer_text-text.ensures.named c.print_text.ensures.stops;
        unread = c.footer_text-text.ensures.unread;
        keys = c.footer_text-text.ensures.keys;
      };
}
