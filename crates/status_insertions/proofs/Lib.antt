mod Made
mod Stand
