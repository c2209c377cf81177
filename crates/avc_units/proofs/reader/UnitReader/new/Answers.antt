use Rattle.avc_units.proofs.reader.UnitReader.new.Goals as goal

pub returns-clause-reader : goal.returns-clause-reader
returns-clause-reader c = λ opened size_is. record { size_is = size_is; kept = c.new.ensures opened }
