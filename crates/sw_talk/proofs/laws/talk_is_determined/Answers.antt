use Rattle.sw_talk.proofs.DeterminedLemmas.{talk-determined}
use Rattle.sw_talk.proofs.laws.talk_is_determined.Goals as goal

pub returns : goal.returns
returns c = talk-determined (record {
  unit = λ text rest rest' u u' is is'. c.one_reading.ensures.units text u u' rest rest' is is';
  error = c.one_reading.ensures.refusals;
  unit_or_blank = λ text rest u is blank. c.one_reading.ensures.no_unit text u rest blank is;
  unit_or_error = λ text rest u e is refused. c.one_reading.ensures.apart text u rest e is refused;
  blank_or_error = λ text e blank refused. c.one_reading.ensures.no_refusal text e blank refused;
  command = λ u path k k' p p' is is' ample ample'. c.one_meaning.ensures u path k k' p p' is is' ample ample';
  expansion = λ t u written r r' p q. c.one_expansion.ensures t u written r r' p q;
})
