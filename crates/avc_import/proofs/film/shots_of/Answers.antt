use Rattle.std.proofs.Common.{refl}
use Rattle.avc_import.proofs.Ordering.{as_many, few_firsts, limit_given, marked, no_first, none_given, places_there, set_there, shots_given, some_first, tie_given}
use Rattle.avc_import.proofs.film.shots_of.Goals as goal

pub returns-then-has_none : goal.returns-then-has_none
returns-then-has_none c = λ file size told j.
    none_given file size told c.args.rate c.args.judged _ j (no_first _ _ c.has_none.ensures c.if-has_none.true) c.at.ensures

pub marks_of-requires-clause-sequence : goal.marks_of-requires-clause-sequence
marks_of-requires-clause-sequence c = set_there c.args.judged c.requires.judged (some_first _ _ c.has_none.ensures c.if-has_none.false)

pub marks_of-requires-clause-few : goal.marks_of-requires-clause-few
marks_of-requires-clause-few c = few_firsts c.args.judged _ c.requires.judged c.in_ok-close.ensures

pub order_in-requires-clause-marked : goal.order_in-requires-clause-marked
order_in-requires-clause-marked c =
    marked c.args.judged c.close.new.self c.in_ok-marks.marks.counts.items c.in_ok-marks.marks.syncs.items c.requires.judged (record {
      some = some_first _ _ c.has_none.ensures c.if-has_none.false;
      closes = c.in_ok-close.ensures;
      counts_are = c.in_ok-marks.ensures.counts;
      syncs_are = c.in_ok-marks.ensures.syncs;
    })

pub order_in-requires-clause-places : goal.order_in-requires-clause-places
order_in-requires-clause-places c =
    places_there c.args.judged c.close.new.self c.in_ok-marks.marks.counts.items c.in_ok-marks.marks.syncs.items c.requires.judged (record {
      some = some_first _ _ c.has_none.ensures c.if-has_none.false;
      closes = c.in_ok-close.ensures;
      counts_are = c.in_ok-marks.ensures.counts;
      syncs_are = c.in_ok-marks.ensures.syncs;
    })

pub returns-in-Err : goal.returns-in-Err
returns-in-Err c =
    tie_given c.args.judged c.close.new.self c.in_ok-marks.marks.counts.items c.in_ok-marks.marks.syncs.items c.in-Err.fail c.args.rate (record {
      some = some_first _ _ c.has_none.ensures c.if-has_none.false;
      closes = c.in_ok-close.ensures;
      counts_are = c.in_ok-marks.ensures.counts;
      syncs_are = c.in_ok-marks.ensures.syncs;
    }) c.in-Err.ensures.tied

pub schedule_in-requires-clause-few : goal.schedule_in-requires-clause-few
schedule_in-requires-clause-few c =
    as_many c.args.judged c.close.new.self c.in_ok-marks.marks.counts.items c.in_ok-marks.marks.syncs.items c.requires.judged (record {
      some = some_first _ _ c.has_none.ensures c.if-has_none.false;
      closes = c.in_ok-close.ensures;
      counts_are = c.in_ok-marks.ensures.counts;
      syncs_are = c.in_ok-marks.ensures.syncs;
    })

pub returns-in-Err-schedule_in : goal.returns-in-Err-schedule_in
returns-in-Err-schedule_in c =
    limit_given c.args.judged c.close.new.self c.in_ok-marks.marks.counts.items c.in_ok-marks.marks.syncs.items c.in-Ok.order c.in-Err-schedule_in.fail c.args.rate (record {
      some = some_first _ _ c.has_none.ensures c.if-has_none.false;
      closes = c.in_ok-close.ensures;
      counts_are = c.in_ok-marks.ensures.counts;
      syncs_are = c.in_ok-marks.ensures.syncs;
    }) c.in-Ok.ensures.order c.in-Err-schedule_in.ensures.limit

pub returns : goal.returns
returns c =
    shots_given c.args.judged c.in_ok-marks.marks.counts.items c.args.rate (record {
      sets = c.args.judged.sets;
      pictures = c.close.new.self;
      syncs = c.in_ok-marks.marks.syncs;
      order = c.in-Ok.order;
      schedule = c.in-Ok-schedule_in.schedule;
    }) (record {
      some = some_first _ _ c.has_none.ensures c.if-has_none.false;
      closes = c.in_ok-close.ensures;
      counts_are = c.in_ok-marks.ensures.counts;
      syncs_are = c.in_ok-marks.ensures.syncs;
    }) refl c.in_ok-marks.ensures.kept c.in-Ok.ensures.order c.in-Ok-schedule_in.ensures.schedule
