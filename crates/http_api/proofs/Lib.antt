mod Answering
mod Bodies
mod CallMoments
mod ListPuts
mod QueryTellings
mod SeriesTellings
