use Rattle.std.proofs.Common.{◌≡◌, List, ℕ, take, drop, arith, subst}
use Rattle.std.proofs.lemmas.Grind.{common_steps}
use Rattle.crypto_module.specs.Modules.{IsGcm}
use Rattle.read_commands.specs.SealedFile.{plaintext_limit}
use Rattle.read_commands.proofs.module_command.open_buffer.Goals as goal

-- the text that stands in the buffer is that of the module
pub returns-in-Ok-clause-sealed : goal.returns-in-Ok-clause-sealed
returns-in-Ok-clause-sealed c =
    let same : take c.in-Ok.module.length (drop 16 c.read_gcm.new.bytes) ≡ c.new.result = grind (arith, common_steps) in
    subst (λ (plain : List ℕ). IsGcm c.args.key.now c.args.associated_data.now plain plaintext_limit c.args.buffer.items) same
    (rw (c.as_mut_slice.ensures.value, c.as_slice-data.ensures.bytes) at c.in-Ok.ensures.opened.held)
