-- What lines ask of nets, as the code has it.
use Rattle.std.specs.Prelude.{[], ◌∷◌}
use Rattle.bind_run.specs.declared.need.Need as code
use Rattle.bind_run.specs.declared.need.Width.{Width}
use Rattle.bind_run.specs.declared.need.Width.TheVariants as width
use Rattle.bind_run.specs.Needs.{Need, Wide}
use Rattle.bind_run.specs.Needs.Wide.{any, exactly, number, holding}

abbrev pub seen_width : Width → Wide
seen_width width.Any = any
seen_width (width.Exactly n) = exactly n
seen_width width.Number = number
seen_width (width.Value value) = holding (value ∷ [])
seen_width (width.Values values) = holding values.now

abbrev pub seen_need : code.Need → Need
seen_need n = record { word = n.word.now; wide = seen_width n.width; role = n.role }
