use Rattle.trace_index.proofs.OneFurther.{none_index, deep_unnoted}
use Rattle.trace_index.proofs.growing.IndexParts.new.Goals as goal

pub returns-clause-whole : goal.returns-clause-whole
returns-clause-whole c = record {
  index = none_index c.new.result c.new-2.result.items c.new-3.result c.new-4.result.places c.new-4.result.noted c.new.ensures c.new-2.ensures.items c.new-3.ensures.last c.new-3.ensures.releases
      c.new-4.ensures.places c.new-4.ensures.noted;
  deep = deep_unnoted c.new.result.0 c.new-5.result.table c.new-5.result.noted c.new-5.ensures.depths c.new-5.ensures.noted;
  room = c.new-3.ensures.room;
}
