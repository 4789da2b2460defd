use Rattle.std.proofs.Common.{◌≡◌, sym, subst, ◌∙◌, ap}
use Rattle.std.specs.Prelude.{IfOk}
use Rattle.bind_run.specs.Values.{HaveRoom}
use Rattle.bind_run.specs.WordPlans.{words_of}
use Rattle.bind_run.proofs.MemLemmas.{mems_room, words_of-mems}
use Rattle.bind_run.proofs.word_plans.words_of.Goals as goal

pub words_among-requires : goal.words_among-requires
words_among-requires c =
    subst HaveRoom (sym (c.as_slice.ensures.value ∙ c.in_ok-mems.ensures)) (mems_room c.args.lines.now c.requires)

pub returns : goal.returns
returns c =
    subst (λ ps. IfOk c.words_among.result (λ plans. plans ≡ ps))
    (ap (words_of c.args.image.now) (c.as_slice.ensures.value ∙ c.in_ok-mems.ensures) ∙ words_of-mems c.args.image.now c.args.lines.now)
    c.words_among.ensures
