use Rattle.glitch_world.proofs.Schedules.{schedule_law}
use Rattle.glitch_world.proofs.laws.schedule_law.Goals as goal

pub returns : goal.returns
returns c = schedule_law
