use Rattle.jaeger_model.proofs.WritableLaws.{writable}
use Rattle.form_vectors.proofs.batches.written.Goals as goal

pub write_batch-requires : goal.write_batch-requires
write_batch-requires c =
    let times = c.reads_times.ensures c.in_ok-batch.batch c.in_ok-batch.ensures.text.0 c.in_ok-batch.ensures.text.1 in
    writable c.in_ok-batch.batch c.proper_sizes.ensures times
