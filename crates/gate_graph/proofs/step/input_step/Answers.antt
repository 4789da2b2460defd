use Rattle.gate_graph.proofs.StepLemmas.{marked_inside, leaf_step, down_step, met_step, up_step}
use Rattle.gate_graph.proofs.step.input_step.Goals as goal

pub returns-in_default-drivers : goal.returns-in_default-drivers
returns-in_default-drivers c = leaf_step c.args.flat.now c.args.drivers.now c.args.marks.now c.requires.wired c.args.wire c.in-Bit.bit c.in-Bit.is c.requires.below _ c.in_default-drivers.not-Cell

pub bounds-2 : goal.bounds-2
bounds-2 c = marked_inside c.args.flat.now c.args.drivers.now c.args.marks.now c.requires.wired c.requires.marks c.args.wire c.in-Bit.bit c.in-Bit.is c.requires.below _ c.in-Cell.cell c.in-Cell.is

pub returns-in-New : goal.returns-in-New
returns-in-New c = down_step c.args.flat.now c.args.drivers.now c.args.marks.now c.requires.wired c.requires.marks c.args.wire c.in-Bit.bit c.in-Bit.is c.requires.below _ c.in-Cell.cell c.in-Cell.is _ c.in-New.is

pub returns-in-Walked : goal.returns-in-Walked
returns-in-Walked c = met_step c.args.flat.now c.args.drivers.now c.args.marks.now c.requires.wired c.requires.marks c.args.wire c.in-Bit.bit c.in-Bit.is c.requires.below _ c.in-Cell.cell c.in-Cell.is _ c.in-Walked.is

pub returns-in-Level : goal.returns-in-Level
returns-in-Level c = up_step c.args.flat.now c.args.drivers.now c.args.marks.now c.requires.wired c.requires.marks c.args.wire c.in-Bit.bit c.in-Bit.is c.requires.below _ c.in-Cell.cell c.in-Cell.is _ c.in-Level.level c.in-Level.is
