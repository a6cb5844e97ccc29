use Rattle.std.proofs.Common.{length, ap, ◌∙◌}
use Rattle.trace_model.specs.Theory.Trace.{last_place}
use Rattle.trace_index.specs.Links.{matches, object_key, trace_of}
use Rattle.trace_index.specs.declared.row.Key.TheVariants.{OfThread}
use Rattle.trace_index.proofs.KeyLists.{small_place}
use Rattle.trace_index.proofs.key_list.row_after.Goals as goal

pub link_to-requires : goal.link_to-requires
link_to-requires c =
    small_place (matches (trace_of c.args.rows.now.0) (OfThread c.args.event.thread)) (length c.args.rows.now.0) c.index_of-own.result c.requires.short
    (c.index_of-own.ensures ∙ c.last_of-last_own.ensures ∙ c.requires.last (OfThread c.args.event.thread))

pub link_to-requires-2 : goal.link_to-requires-2
link_to-requires-2 c =
    small_place (matches (trace_of c.args.rows.now.0) (object_key c.args.event.op)) (length c.args.rows.now.0) c.index_of.result c.requires.short
    (c.index_of.ensures ∙ c.last_of-last_about.ensures ∙ c.requires.last c.object_key.result ∙ ap (λ q. last_place (matches (trace_of c.args.rows.now.0) q) (length c.args.rows.now.0)) c.object_key.ensures)
