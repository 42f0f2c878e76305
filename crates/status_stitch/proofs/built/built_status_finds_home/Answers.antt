use Rattle.status_stitch.proofs.built.built_status_finds_home.Goals as goal

pub returns : goal.returns
returns c = λ L p seen names plan fitted M whole.
    c.status_finds_home.ensures L p seen names M fitted.registers whole.fits whole.laid_out whole.dense
    (c.fitted_registers_are_own.ensures L p seen plan fitted whole.spelled whole.fitted_is whole.faultless)
    (c.built_has_status.ensures L p seen names M fitted.registers whole.fits whole.laid_out whole.dense whole.built)
