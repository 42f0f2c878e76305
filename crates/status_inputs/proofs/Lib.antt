mod Few
mod Ready
mod Stand
