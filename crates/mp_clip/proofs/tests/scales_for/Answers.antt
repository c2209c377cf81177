use Rattle.mp_clip.proofs.tests.scales_for.Goals as goal

pub returns-clause-told : goal.returns-clause-told
returns-clause-told g c media movie unit pieces is =
    rw (c.scaled-media.ensures.product, c.scaled-movie.ensures.product)
    (c.shapes_can_be_told.ensures media movie unit pieces c.args.shape c.args.by c.args.movie_by c.args.back is c.scaled-media.ensures.by c.scaled-movie.ensures.by
    c.check_starts.ensures.late c.check_starts.ensures.early c.check_total.ensures)
