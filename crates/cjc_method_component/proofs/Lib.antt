mod Listed
mod Standing
