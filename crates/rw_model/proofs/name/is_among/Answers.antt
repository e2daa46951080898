use Rattle.rw_base.proofs.Common.{◌∙◌, refl, sym, below_more, false≢true, get_or-map, length-map, bytes_eq-Decides}
use Rattle.rw_model.proofs.name.is_among.Goals as goal

pub returns-then-eq : goal.returns-then-eq
returns-then-eq c = (
  λ _. (
    c.loop-word.word-index,
    rw (length-map c.args.words.now (λ word. word.now)) c.loop-word-test.true,
    get_or-map (λ word. word.now) c.args.words.now c.loop-word.word-index _ c.args.text.now c.loop-word-test.true
        ∙ (bytes_eq-Decides _ _).0 (sym c.eq.ensures ∙ c.if-eq.true),
  ),
  λ _. refl,
)

pub loop-word-preserved : goal.loop-word-preserved
loop-word-preserved c = below_more _ _ c.loop-word.invariant
    (λ same. false≢true (sym c.if-eq.false ∙ c.eq.ensures ∙ (bytes_eq-Decides _ _).1
    (sym (get_or-map (λ word. word.now) c.args.words.now c.loop-word.word-index _ c.args.text.now c.loop-word-test.true) ∙ same)))
