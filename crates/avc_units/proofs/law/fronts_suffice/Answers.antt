use Rattle.avc_units.proofs.Fronts.{walk_more, walk_fail_more}
use Rattle.avc_units.proofs.law.fronts_suffice.Goals as goal

pub returns : goal.returns
returns g c = record {
  value = λ table bits more rest x e. walk_more table bits rest more x e;
  fail = λ table bits more fail ne e. walk_fail_more table bits more fail ne e;
}
